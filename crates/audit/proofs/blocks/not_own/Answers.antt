-- `audit::blocks::not_own` meets its contract: two codes differ in block and place where they differ in one of them.
use Prim.Native.Nat.{ℕ}
use mathlib.Core.Bool.{Bool, true, false, not, ◌&&◌, ◌||◌}
use mathlib.Core.Path.{◌≡◌, refl}
use lib.Dec.{eqb}
use Rattle.hash.specs.Hash.{hash_of}
use Rattle.hash.specs.declared.Hasher.{Hasher}
use Rattle.audit.specs.declared.blocks.BlockHash.{BlockHash}
use Rattle.audit.specs.code.Blocks.{elsewhere, not_own}
use Rattle.audit.proofs.blocks.not_own.Goals as goal

not_and : (a b : Bool) → (not a || not b) ≡ not (a && b)
not_and true b = refl
not_and false b = refl

own_is :
    (h : Hasher) (b : BlockHash) (t a : ℕ)
    → (elsewhere h b.number a || not (eqb (hash_of h.prime b.multiplier b.cells a) t)) ≡ not_own h b t a
unfolding elsewhere not_own
own_is h b t a =
    not_and (eqb (hash_of h.prime h.multiplier h.places a) b.number) (eqb (hash_of h.prime b.multiplier b.cells a) t)

pub returns : goal.returns
returns c =
    rw (c.elsewhere.ensures, c.wide-place.ensures.value, c.hash.ensures.value)
    (own_is c.args.h c.args.b c.args.t c.args.a)
