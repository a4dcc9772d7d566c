use Prim.Native.Nat.{ℕ, ◌/◌, ◌%◌, ◌≤◌}
use mathlib.Core.List.{List, ◌++◌, append_assoc}
use mathlib.Core.Path.{◌≡◌, ap}
use native.Mathlib.Omega.{arith}
use lib.ListN.{length, length-append}
use Rattle.decimal.specs.code.Added.{Added}
use Rattle.decimal.specs.Decimal.{decimal}
use Rattle.decimal.proofs.Added.{before, kept}
use Rattle.decimal.proofs.Decimal.{two, decimal_one, decimal_two, decimal_hundred}
use Rattle.decimal.proofs.put_decimal_before.Invariants.{Tail}
use Rattle.decimal.proofs.put_decimal_before.Goals as goal

module _ {x : ℕ} {old : List ℕ} {end begin rest : ℕ} {new : List ℕ} (t : Tail x old end begin rest new) where
  -- there is room for the digits that are left
  room : length (decimal x) ≤ end → (length (decimal rest) ≤ begin) × (begin ≤ length new)
  room h = omega (arith, t.added.place, t.added.fits, kept t.added, simp length-append at (ap length t.whole))

  -- two digits more
  turn : {r : ℕ} {now : List ℕ} → 100 ≤ rest → Added (two (rest % 100)) r new begin now → Tail x old end r (rest / 100) now
  turn h a =
      record {
        last = two (rest % 100) ++ t.last;
        added = before t.added a;
        whole = rw (decimal_hundred rest h t.most, append_assoc) at t.whole;
        most = omega (arith, t.most);
      }

  -- the digits that are left
  first : {piece : List ℕ} {r : ℕ} {now : List ℕ} → decimal rest ≡ piece → Added piece r new begin now → Added (decimal x) r old end now
  first e a = rw (← t.whole, e) (before t.added a)

pub put_two_before-begin-requires : goal.put_two_before-begin-requires
put_two_before-begin-requires c =
    let h = decimal_hundred c.loop-rest.rest c.loop-rest-test.true c.loop-rest.invariant.most in
    omega (arith, room c.loop-rest.invariant c.requires.0, simp length-append at (ap length h))

pub loop-rest-preserved : goal.loop-rest-preserved
loop-rest-preserved c =
    turn c.loop-rest.invariant c.loop-rest-test.true c.put_two_before-begin.ensures

pub put_before-requires : goal.put_before-requires
put_before-requires c =
    omega (arith, room c.loop-rest.invariant c.requires.0, ap length (decimal_one c.loop-rest.rest c.if-rest-lt10.true))

pub returns-then-rest-lt10 : goal.returns-then-rest-lt10
returns-then-rest-lt10 c =
    first c.loop-rest.invariant (rw c.digit.ensures (decimal_one _ c.if-rest-lt10.true)) c.put_before.ensures

pub put_two_before-requires : goal.put_two_before-requires
put_two_before-requires c =
    let h = decimal_two c.loop-rest.rest c.if-rest-lt10.false c.loop-rest-test.false in
    omega (arith, room c.loop-rest.invariant c.requires.0, ap length h)

pub returns : goal.returns
returns c =
    first c.loop-rest.invariant (decimal_two _ c.if-rest-lt10.false c.loop-rest-test.false) c.put_two_before.ensures
