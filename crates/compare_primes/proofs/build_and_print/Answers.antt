-- `compare_primes::build_and_print` is safe: a list that none of 1 to 5 refuses is one that can be searched, and the part that is lent is as long as it says.
use mathlib.Core.Path.{sym, ap, ◌∙◌}
use Rattle.prelude.specs.Limits.{most_pairs}
use Rattle.lists.specs.List.{listed_of}
use Rattle.lists.specs.Valid.{Valid}
use Rattle.lists.proofs.Valid.{passes_valid}
use Rattle.compare_primes.proofs.build_and_print.Goals as goal

pub write_valid-requires : goal.write_valid-requires
write_valid-requires c =
    let valid : Valid c.args.p most_pairs c.args.codes.now c.args.schedules.now = passes_valid _ _ _ _ (sym c.validate.ensures ∙ ap listed_of c.in-Ok.is) in
    record {
      searchable = record { prime = c.requires; valid = valid.codes_valid; few = valid.few };
      schedules_len = valid.parallel;
    }
