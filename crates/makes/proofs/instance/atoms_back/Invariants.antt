use Rattle.std.proofs.Common.{◌≡◌, map, length, take}
use Rattle.makes.specs.Repeats.{atom_back}
use Rattle.makes.proofs.instance.atoms_back.Given as goal

-- the atoms of the first i steps are written
abbrev pub invariant-loop-i : goal.invariant-loop-i
invariant-loop-i l = (length l.atoms ≡ 6) × (take l.i l.atoms ≡ take l.i (map (atom_back l.width l.tick) l.steps))
