use Rattle.std.proofs.Common.{refl}
use Rattle.stamps.specs.Aisles.{part_of}
use Rattle.samples.proofs.cases.cases_hold.Goals as goal

pub returns : goal.returns
unfolding part_of
returns c = record {
  negative_level = refl;
  negative_before = refl;
  positive_level = refl;
  positive_after = refl;
  route_before = refl;
  routes_unordered = (refl, refl, refl, refl);
}
