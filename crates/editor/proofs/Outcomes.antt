-- The outcome of an edit, test after test, up to the pairs of an accepted table: a refusal keeps the second buffer.
use Prim.Native.Nat.{ℕ, ◌-◌}
use mathlib.Core.Bool.{true, false}
use mathlib.Core.List.{List}
use mathlib.Core.Path.{◌≡◌, refl, sym, ◌∙◌}
use lib.ListN.{length}
use Rattle.prelude.specs.Answers.{Answer, given, refused, outside}
use Rattle.audit.specs.Check.{check_of}
use Rattle.reader.specs.Pairs.{pairs_in}
use Rattle.editor.specs.Edit.{without, with_pair, table_of_pairs, insert_of, remove_of, Inserted, Removed}
use Rattle.editor.specs.code.Editing.{Outcome, from_full, PutIn, from_there, TakenOut}
use Rattle.editor.proofs.Edits.{refusal}

-- the answer is a refusal
abbrev pub Refusing : Answer → Type 0
Refusing answer = (number : ℕ) × (value : ℕ) × (answer ≡ refused number value)

module _ (p limit : ℕ) (words : List ℕ) (code : ℕ) (second : List ℕ) where
  -- ---- put in

  module _ (schedule : ℕ) where
    inserted :
        {expected answer : Answer} {second' : List ℕ} → insert_of p limit words code schedule (length second) ≡ expected
        → Outcome expected (table_of_pairs p (with_pair code schedule (pairs_in words))) second answer second'
        → Inserted p limit words code schedule second answer second'
    inserted e o = record { answers = o.answers ∙ sym e; second_at_exit = rw e o.second_at_exit }

    pub insert_51 : outside 1 (p - 1) code ≡ true → Inserted p limit words code schedule second (refused 51 0) second
    unfolding insert_of
    insert_51 bad = inserted (rw bad) (refusal 51 0 refl)

    module _ (in_range : outside 1 (p - 1) code ≡ false) where
      pub insert_52 : outside 1 999 schedule ≡ true → Inserted p limit words code schedule second (refused 52 0) second
      unfolding insert_of
      insert_52 bad = inserted (rw (in_range, bad)) (refusal 52 0 refl)

      module _ (scheduled : outside 1 999 schedule ≡ false) where
        pub insert_refused :
            (answer : Answer) → answer ≡ check_of p limit words → Refusing answer → Inserted p limit words code schedule second answer second
        unfolding insert_of
        insert_refused answer e (number, value, bad) = rw bad (inserted (rw (in_range, scheduled, sym e ∙ bad)) (refusal number value refl))

        pub insert_done :
            {answer : Answer} {second' : List ℕ} (values : List ℕ) → check_of p limit words ≡ given values
            → PutIn p limit words code schedule second answer second' → Inserted p limit words code schedule second answer second'
        unfolding insert_of from_full
        insert_done values good o = inserted (rw (in_range, scheduled, good)) o

  -- ---- take out

  removed :
      {expected answer : Answer} {second' : List ℕ} → remove_of p limit words code (length second) ≡ expected
      → Outcome expected (table_of_pairs p (without code (pairs_in words))) second answer second'
      → Removed p limit words code second answer second'
  removed e o = record { answers = o.answers ∙ sym e; second_at_exit = rw e o.second_at_exit }

  pub remove_51 : outside 1 (p - 1) code ≡ true → Removed p limit words code second (refused 51 0) second
  unfolding remove_of
  remove_51 bad = removed (rw bad) (refusal 51 0 refl)

  module _ (in_range : outside 1 (p - 1) code ≡ false) where
    pub remove_refused : (answer : Answer) → answer ≡ check_of p limit words → Refusing answer → Removed p limit words code second answer second
    unfolding remove_of
    remove_refused answer e (number, value, bad) = rw bad (removed (rw (in_range, sym e ∙ bad)) (refusal number value refl))

    pub remove_done :
        {answer : Answer} {second' : List ℕ} (values : List ℕ) → check_of p limit words ≡ given values
        → TakenOut p words code second answer second' → Removed p limit words code second answer second'
    unfolding remove_of from_there
    remove_done values good o = removed (rw (in_range, good)) o
