-- `hash::Hasher::remainder` meets its contract: the quotient by the reciprocal is x / w, which times w is at most x.
use Rattle.std.proofs.Common.{arith}
use native.Mathlib.Nat.{mod-lt, div-add-mod'}
use Rattle.hash.proofs.Reciprocals.{ready_quotient}
use Rattle.hash.proofs.Hasher.remainder.Goals as goal

pub overflow_sub-result : goal.overflow_sub-result
overflow_sub-result c =
    rw (ready_quotient c.args.self.ready c.in-Some.is c.requires c.from.ensures) (omega (arith, div-add-mod' c.args.x c.args.self.places))

pub returns : goal.returns
returns c =
    let divides = div-add-mod' c.args.x c.args.self.places in
    rw (ready_quotient c.args.self.ready c.in-Some.is c.requires c.from.ensures)
    (record {
      value = omega (arith, divides);
      range = omega (arith, divides, mod-lt c.args.x c.args.self.ready.positive);
    })
