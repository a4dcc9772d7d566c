-- `builder::build::build_for` meets its contract: by the list's own answer, and then by the words that are lent.
use mathlib.Core.Path.{◌≡◌, sym, ◌∙◌}
use native.Mathlib.Omega.{arith}
use Rattle.std.specs.Prelude.{Err}
use Rattle.std.proofs.Common.{rules}
use Rattle.lists.specs.Valid.{Valid}
use Rattle.lists.proofs.Answered.{refuses}
use Rattle.lists.proofs.Valid.{passes_valid}
use Rattle.builder.specs.declared.build.BuildError.TheVariants.{Refused}
use Rattle.builder.proofs.Outcomes.{refused_built, too_short, long_enough}
use Rattle.builder.proofs.build.build_for.Goals as goal

pub returns-in_err-validate : goal.returns-in_err-validate
returns-in_err-validate c =
    let e = c.in_err-validate.field-0.0 in
    let r = refuses e in
    let is : c.from_residual.result ≡ Err (Refused e) = search rules in
    rw (is, r.2) (refused_built _ _ _ _ _ r.0 r.1 (sym c.in_err-validate.ensures ∙ r.2))

-- none of 1 to 5 holds
pub write_valid-total-requires : goal.write_valid-total-requires
write_valid-total-requires c =
    let valid : Valid c.args.format.prime c.args.format.limit c.args.codes.now c.args.schedules.now = passes_valid _ _ _ _ (sym c.in_ok-validate.ensures) in
    record {
      searchable = record { prime = c.requires.prime; valid = valid.codes_valid; few = omega (arith, valid.few, c.requires.limit_le_room) };
      schedules_len = valid.parallel;
    }

pub returns-then-lent-wide : goal.returns-then-lent-wide
returns-then-lent-wide c =
    too_short (passes_valid _ _ _ _ (sym c.in_ok-validate.ensures)) c.write_valid-total.ensures (rw c.wide.ensures.value at c.if-lent-wide.true)

pub returns : goal.returns
returns c =
    long_enough (passes_valid _ _ _ _ (sym c.in_ok-validate.ensures)) c.write_valid-total.ensures (rw c.wide.ensures.value at c.if-lent-wide.false)
