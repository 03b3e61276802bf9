-- The theorems, for every order that keeps the laws.
use Rattle.std.proofs.Common.{sym, subst}
use mathlib.Core.Path.{fun_ext}
use Rattle.models.specs.Sets.{Set}
use Rattle.models.specs.Stability.{Stable}
use Rattle.models.specs.Moves.{start, reached, fed_by, model_of}
use Rattle.models.specs.Sets.{State}
use Rattle.models.specs.Theorems.{EachHasOneModel, RuledOutLasts, OpenMayCome, NothingTakenBack, DueGivesSafe, SweepingEnds, EndIsModel}
use Rattle.models.proofs.OneModel.{unique}
use Rattle.models.proofs.RuledOutStays.{lasts_all}
use Rattle.models.proofs.HeldIsFounded.{founded_run}
use Rattle.models.proofs.RunInvariants.{may_come}
use Rattle.models.proofs.SafeFromDue as progress
use Rattle.models.proofs.SettledIsModel.{model_stable, stable_end, held_in_model, out_of_model}
use Rattle.models.proofs.MovesAppended.{after_all-append, may_then}
use Rattle.models.specs.Verdicts.{ruled_out}
use Rattle.stamps.specs.Orders.{IsLawful, Tests}
use Rattle.std.specs.Bool.{IsTrue}

module _ {S : Type 0} {tests : Tests S} (laws : IsLawful tests) where
  pub each_has_one_model_lem : EachHasOneModel tests
  each_has_one_model_lem m sound R readings = record {
    stable = model_stable laws sound R readings;
    only = λ M stable. unique laws sound R M (model_of tests m R) readings stable (model_stable laws sound R readings);
  }

  pub ruled_out_lasts_lem : RuledOutLasts tests
  ruled_out_lasts_lem m sound moves more run a out =
      subst (λ (s : State). IsTrue (ruled_out tests m s a)) (sym (after_all-append tests m (start m) moves more))
      (lasts_all laws sound (reached tests m moves) more (may_then tests m (start m) moves more run) a out)

  pub nothing_taken_back : NothingTakenBack tests
  nothing_taken_back m sound moves run R M outcome stable = record {
    held = held_in_model laws sound moves run R M outcome stable;
    out = out_of_model laws sound moves run R M outcome stable;
  }

  pub open_may_come : OpenMayCome tests
  open_may_come m sound = may_come laws sound

  pub due_gives_safe_lem : DueGivesSafe tests
  due_gives_safe_lem m sound = progress.something_safe laws sound

  pub sweeping_ends_lem : SweepingEnds tests
  sweeping_ends_lem m sound = progress.sweeping_ends_lem laws sound

  pub end_is_model : EndIsModel tests
  end_is_model m sound moves run shut idle = record {
    model = stable_end laws sound (reached tests m moves) (fed_by moves) (founded_run laws sound moves run) idle;
    same = λ others run' shut' idle' fed.
        unique laws sound (fed_by moves) (reached tests m others).held (reached tests m moves).held
        (founded_run laws sound moves run).readings
        (subst (λ (R : Set). Stable m R (reached tests m others).held) (fun_ext fed)
        (stable_end laws sound (reached tests m others) (fed_by others) (founded_run laws sound others run') idle'))
        (stable_end laws sound (reached tests m moves) (fed_by moves) (founded_run laws sound moves run) idle);
  }
