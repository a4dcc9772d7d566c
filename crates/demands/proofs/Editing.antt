-- Put in, take out: past their own refusals both build a valid list, so what is proved of builds holds of them. The pairs of an accepted table are
-- those that a lookup finds, so the changed list is told by lookups.
use Prim.Native.Nat.{ℕ, ◌<◌, ◌≤◌}
use native.Mathlib.Decide.{ℕ_discrete}
use native.Mathlib.Omega.{arith}
use mathlib.Core.Bool.{Bool, true, false, cond}
use mathlib.Core.List.{List, [], ◌∷◌, Memᴰ}
use mathlib.Core.Logic.{◌↔◌, ◌⊎◌, inl, inr, ⊎_elim}
use mathlib.Core.Path.{◌≡◌, refl, sym, ap, ◌∙◌}
use borrow.Author.Tests.{ltb-false, lt-ltb, le-ltb, eq-eqb, ne_eqb}
use lib.Dec.{eqb, ltb, lit≤}
use lib.ListN.{length, take}
use Rattle.hash.proofs.Primes.{prime_65537}
use Rattle.prelude.specs.Answers.{Answer, given, absent, refuse, filled}
use Rattle.prelude.specs.Pairs.{Pair, codes_of, schedules_of}
use Rattle.table.specs.Words.{code_count, total}
use Rattle.table.specs.TwoLevel.{words_needed}
use Rattle.lookup.specs.Lookup.{lookup_of}
use Rattle.prelude.proofs.Refusals.{never_both}
use Rattle.audit.specs.WellFormed.{WellFormed}
use Rattle.audit.proofs.Lookups.{lookup_range}
use Rattle.audit.proofs.WellFormed.{check_exactly}
use Rattle.reader.specs.Pairs.{pairs_in}
use Rattle.reader.proofs.PairLaws.{pairs_codes, pair_schedule, pairs_found, found_pairs}
use Rattle.builder.specs.Build.{build_of, built_words}
use Rattle.editor.specs.Edit.{without, with_pair, present, rebuilt, table_of_pairs, insert_of, remove_of, Inserted, Removed}
use Rattle.editor.specs.code.Editing.{InRange}
use Rattle.editor.proofs.Others.{without_mem, mem_without, without_codes, with_codes}
use Rattle.editor.proofs.Edits.{left_le, left_found, present_is, full_is, with_few, without_few}
use Rattle.lists.specs.Valid.{Valid}
use Rattle.demands.specs.Lists.{Listed, FoundWith, right_answer}
use Rattle.demands.specs.Answered.{schedule_alone, read_as}
use Rattle.demands.specs.Theorems.{Accepted, Rebuilds, MayPutIn, MayTakeOut, Editing}
use Rattle.demands.proofs.Reading.{mem_listed, listed_mem, pairs_valid, reading}
use Rattle.demands.proofs.RightAnswer.{right_cases, right_exactly}
use Rattle.demands.proofs.BuildingBuild.{build_answer, build_leaves, built_table}
use Rattle.demands.proofs.BuildingOrder.{order_answer, order_leaves}
use Rattle.demands.proofs.Building.{building}

-- ---- the changed lists

module _ {p limit : ℕ} {words : List ℕ} (f : WellFormed p limit words) (code a s : ℕ) where
  abbrev Other : Type 0
  Other = (a ≡ code → ⊥) × FoundWith p limit words a s

  left_other : Memᴰ (record { code = a; schedule = s }) (without code (pairs_in words)) → Other
  left_other m = let (there, other) = without_mem code (pairs_in words) m in (other, pairs_found f there)

  other_left : Other → Memᴰ (record { code = a; schedule = s }) (without code (pairs_in words))
  other_left (other, (i, found)) = mem_without code (pairs_in words) (found_pairs f i found) other

  without_exactly :
      Listed (codes_of (without code (pairs_in words))) (schedules_of (without code (pairs_in words))) a s ↔ Other
  without_exactly = (λ l. left_other (listed_mem (without code (pairs_in words)) l), λ o. mem_listed (other_left o))

  with_exactly :
      (schedule : ℕ)
      → Listed (codes_of (with_pair code schedule (pairs_in words))) (schedules_of (with_pair code schedule (pairs_in words))) a s
      ↔ (((a ≡ code) × (s ≡ schedule)) ⊎ Other)
  unfolding with_pair
  with_exactly schedule = (
    λ l.
        ⊎_elim
        (λ same. inl (ap (λ (r : Pair). r.code) same, ap (λ (r : Pair). r.schedule) same))
        (λ t. inr (left_other t))
        (mathlib.Core.List.Memᴰ.cases_cons (listed_mem (with_pair code schedule (pairs_in words)) l)),
    λ o.
        let m : Memᴰ (record { code = a; schedule = s }) (with_pair code schedule (pairs_in words)) =
        ⊎_elim (λ (e, g). mathlib.Core.List.Memᴰ.head (λ i. record { code = e i; schedule = g i })) (λ t. mathlib.Core.List.Memᴰ.tail (other_left t)) o in
        mem_listed m,
  )

-- ---- what is built of them

-- 6 read as 54, by the test of either
read_room : (short : Bool) (total : ℕ) → read_as 6 54 (refuse short 6 total (given (total ∷ []))) ≡ refuse short 54 total (given (total ∷ []))
unfolding read_as
read_room true total = refl
read_room false total = refl

room_filled :
    (short : Bool) (total : ℕ) (table second : List ℕ)
    → filled (refuse short 54 total (given (total ∷ []))) table second ≡ filled (refuse short 6 total (given (total ∷ []))) table second
room_filled true total table second = refl
room_filled false total table second = refl

module _
    (changed : List Pair) (valid : Valid 65537 2048 (codes_of changed) (schedules_of changed)) (second : List ℕ) (expected : Answer)
    (e : expected ≡ rebuilt 65537 changed (length second))
  where
    abbrev needed : ℕ
    needed = words_needed 65537 (codes_of changed)

    answer_is : expected ≡ read_as 6 54 (build_of 65537 2048 (codes_of changed) (schedules_of changed) (length second))
    unfolding rebuilt
    answer_is =
        e
        ∙ sym (read_room (ltb (length second) needed) needed)
        ∙ ap (read_as 6 54) (sym (build_answer (codes_of changed) (schedules_of changed) valid (length second)))

    second_is :
        filled expected (table_of_pairs 65537 changed) second ≡ built_words 65537 2048 (codes_of changed) (schedules_of changed) second
    unfolding rebuilt
    second_is =
        ap (λ (r : Answer). filled r (table_of_pairs 65537 changed) second) e
        ∙ room_filled (ltb (length second) needed) needed (table_of_pairs 65537 changed) second
        ∙ sym (build_leaves (codes_of changed) (schedules_of changed) valid second)

    rebuilds :
        {answer : Answer} {second' : List ℕ} → answer ≡ expected → second' ≡ filled expected (table_of_pairs 65537 changed) second
        → Rebuilds changed second answer second'
    rebuilds same left =
        record {
          valid = valid;
          answers = same ∙ answer_is;
          second_at_exit = left ∙ second_is;
          any_list = λ codes schedules valid' pairs. (
            same
                ∙ answer_is
                ∙ ap (read_as 6 54) (order_answer prime_65537 (codes_of changed) (schedules_of changed) codes schedules valid valid' pairs (length second)),
            left
                ∙ second_is
                ∙ order_leaves prime_65537 (codes_of changed) (schedules_of changed) codes schedules valid valid' pairs second,
          );
        }

-- ---- past the refusals of an edit

module _ (words : List ℕ) (accept : Accepted words) (code : ℕ) where
  wf : WellFormed 65537 2048 words
  wf = (check_exactly 65537 2048 words).0 accept

  -- how many pairs have other codes
  abbrev left : ℕ
  left = length (without code (pairs_in words))

  without_valid : Valid 65537 2048 (codes_of (without code (pairs_in words))) (schedules_of (without code (pairs_in words)))
  without_valid =
      pairs_valid (without code (pairs_in words)) (without_few wf code) (without_codes code (pairs_in words) (pairs_codes wf))
      (λ r m. pair_schedule wf (without_mem code (pairs_in words) m).0)

  module _ (s i : ℕ) (found : lookup_of 65537 2048 words code ≡ given (s ∷ i ∷ [])) where
    found_range : (1 ≤ code) × (code < 65537)
    found_range = lookup_range 65537 2048 words code (s ∷ i ∷ []) (lit≤ tt) found

    found_present : present words code ≡ true
    found_present = present_is wf code ∙ lt-ltb left (code_count words) (omega (arith, left_found wf code s i found))

    removes : (second : List ℕ) → remove_of 65537 2048 words code (length second) ≡ rebuilt 65537 (without code (pairs_in words)) (length second)
    unfolding remove_of
    removes second =
        rw (le-ltb code 1 found_range.0, le-ltb 65536 code (omega (arith, found_range)), accept, found_present)

  module _ (schedule : ℕ) (range : InRange 65537 code schedule) (room : left ≡ 2048 → ⊥) where
    with_valid :
        Valid 65537 2048 (codes_of (with_pair code schedule (pairs_in words))) (schedules_of (with_pair code schedule (pairs_in words)))
    unfolding with_pair
    with_valid =
        pairs_valid (with_pair code schedule (pairs_in words)) (with_few wf code schedule room)
        (with_codes code schedule (pairs_in words) range.code_from_one range.code_below (pairs_codes wf))
        (λ r m.
        ⊎_elim
        (λ same.
        let e : r.schedule ≡ schedule = ap (λ (y : Pair). y.schedule) same in
        (omega (arith, range.schedule_from_one), omega (arith, range.schedule_to_999)))
        (λ t. pair_schedule wf (without_mem code (pairs_in words) t).0)
        (mathlib.Core.List.Memᴰ.cases_cons m))

    inserts :
        (second : List ℕ)
        → insert_of 65537 2048 words code schedule (length second) ≡ rebuilt 65537 (with_pair code schedule (pairs_in words)) (length second)
    unfolding insert_of
    inserts second =
        rw (
          le-ltb code 1 range.code_from_one,
          le-ltb 65536 code (omega (arith, range.code_below)),
          le-ltb schedule 1 range.schedule_from_one,
          le-ltb 999 schedule range.schedule_to_999,
          accept,
          full_is wf code,
          ne_eqb left 2048 room,
        )

  -- a code that is there, or a table that is not full
  has_room : (code_count words < 2048) ⊎ ((s : ℕ) × FoundWith 65537 2048 words code s) → left ≡ 2048 → ⊥
  has_room (inl few) e = omega (arith, left_le wf code)
  has_room (inr (s, (i, found))) e = omega (arith, left_found wf code s i found, wf.few_codes)

put_in :
    (words : List ℕ) (code schedule : ℕ) (second : List ℕ) (answer : Answer) (second' : List ℕ) → MayPutIn words code schedule
    → Inserted 65537 2048 words code schedule second answer second'
    → Rebuilds (with_pair code schedule (pairs_in words)) second answer second'
put_in words code schedule second answer second' may done =
    let range : InRange 65537 code schedule =
    record {
      code_from_one = may.code_range.0;
      code_below = omega (arith, may.code_range);
      schedule_from_one = may.schedule_range.0;
      schedule_to_999 = may.schedule_range.1;
    } in
    let room = has_room words may.accepted code may.room in
    rebuilds (with_pair code schedule (pairs_in words)) (with_valid words may.accepted code schedule range room) second _
    (inserts words may.accepted code schedule range room second)
    done.answers
    done.second_at_exit

take_out :
    (words : List ℕ) (code : ℕ) (second : List ℕ) (answer : Answer) (second' : List ℕ) → MayTakeOut words code
    → Removed 65537 2048 words code second answer second' → Rebuilds (without code (pairs_in words)) second answer second'
take_out words code second answer second' may done =
    let (s, (i, found)) = may.there in
    rebuilds (without code (pairs_in words))
    (without_valid words may.accepted code)
    second
    _
    (removes words may.accepted code s i found second)
    done.answers
    done.second_at_exit

-- ---- the new table

-- a result is told only where there is room
room_told : (short : Bool) (needed total : ℕ) → given (total ∷ []) ≡ read_as 6 54 (refuse short 6 needed (given (needed ∷ []))) → short ≡ false
unfolding read_as
room_told true needed total e = never_both e refl
room_told false needed total e = refl

-- the new table gives the right answers of the changed list
module _
    (changed : List Pair) (second : List ℕ) (total : ℕ) (second' : List ℕ) (done : Rebuilds changed second (given (total ∷ [])) second')
    (a : ℕ) (from : 1 ≤ a) (to : a ≤ 65536)
  where
    abbrev codes : List ℕ
    codes = codes_of changed

    abbrev schedules : List ℕ
    schedules = schedules_of changed

    new_room : words_needed 65537 codes ≤ length second
    new_room =
        ltb-false (length second) (words_needed 65537 codes)
        (room_told (ltb (length second) (words_needed 65537 codes)) (words_needed 65537 codes) total
        (done.answers ∙ ap (read_as 6 54) (build_answer codes schedules done.valid (length second))))

    new_right : lookup_of 65537 2048 second' a ≡ right_answer codes schedules second' a
    new_right =
        (building.tables codes schedules done.valid).lookup_right second'
        (ap (take (words_needed 65537 codes)) done.second_at_exit ∙ built_table codes schedules done.valid second new_room)
        a
        from
        to

    -- by whether the code is the one that is changed
    new_lookup :
        (words : List ℕ) → Accepted words → (code : ℕ) (here : Answer) → (a ≡ code → schedule_alone (right_answer codes schedules second' a) ≡ here)
        → ((a ≡ code → ⊥) → (s : ℕ) → Listed codes schedules a s ↔ FoundWith 65537 2048 words a s)
        → schedule_alone (lookup_of 65537 2048 second' a) ≡ cond (eqb a code) here (schedule_alone (lookup_of 65537 2048 words a))
    new_lookup words accept code here same other =
        ap schedule_alone new_right
        ∙ elim (ℕ_discrete a code) [
          | yes e ↦ same e ∙ sym (rw (eq-eqb a code e))
          | no ne ↦
              elim (right_cases codes schedules second' a done.valid.parallel) [
                | inl r ↦
                    let (i, found) = (other ne r.schedule).0 r.listed in
                    ap schedule_alone r.answer ∙ sym (ap schedule_alone found) ∙ sym (rw (ne_eqb a code ne))
                | inr r ↦
                    let gone : lookup_of 65537 2048 words a ≡ absent =
                    elim (reading.found_or_absent words accept a from to) [
                      | inl (s, found) ↦
                          let l = (other ne s).1 found in
                          absurd (r.nowhere l.index l.in_list l.code_there)
                      | inr e ↦ e
                    ] in
                    ap schedule_alone (r.answer ∙ sym gone) ∙ sym (rw (ne_eqb a code ne))
              ]
        ]

put_in_lookup :
    (words : List ℕ) (code schedule : ℕ) (second : List ℕ) (total : ℕ) (second' : List ℕ) → MayPutIn words code schedule
    → Inserted 65537 2048 words code schedule second (given (total ∷ [])) second'
    → (a : ℕ) → 1 ≤ a → a ≤ 65536
    → schedule_alone (lookup_of 65537 2048 second' a)
    ≡ cond (eqb a code) (given (schedule ∷ [])) (schedule_alone (lookup_of 65537 2048 words a))
put_in_lookup words code schedule second total second' may done a from to =
    let changed : List Pair = with_pair code schedule (pairs_in words) in
    let new = put_in words code schedule second _ second' may done in
    let f = wf words may.accepted code in
    new_lookup changed second total second' new a from to words may.accepted code (given (schedule ∷ []))
    (λ e.
    let (i, found) = (right_exactly (codes_of changed) (schedules_of changed) second' a schedule new.valid.parallel new.valid.codes_valid.different).1
    ((with_exactly f code a schedule schedule).1 (inl (e, refl))) in
    ap schedule_alone found)
    (λ ne s. (
      λ l. ⊎_elim (λ (e, g). absurd (ne e)) (λ (other, found). found) ((with_exactly f code a s schedule).0 l),
      λ found. (with_exactly f code a s schedule).1 (inr (ne, found)),
    ))

take_out_lookup :
    (words : List ℕ) (code : ℕ) (second : List ℕ) (total : ℕ) (second' : List ℕ) → MayTakeOut words code
    → Removed 65537 2048 words code second (given (total ∷ [])) second'
    → (a : ℕ) → 1 ≤ a → a ≤ 65536
    → schedule_alone (lookup_of 65537 2048 second' a) ≡ cond (eqb a code) absent (schedule_alone (lookup_of 65537 2048 words a))
take_out_lookup words code second total second' may done a from to =
    let changed : List Pair = without code (pairs_in words) in
    let new = take_out words code second _ second' may done in
    let f = wf words may.accepted code in
    new_lookup changed second total second' new a from to words may.accepted code absent
    (λ e.
    elim (right_cases (codes_of changed) (schedules_of changed) second' a new.valid.parallel) [
      | inl r ↦ absurd (((without_exactly f code a r.schedule).0 r.listed).0 e)
      | inr r ↦ ap schedule_alone r.answer
    ])
    (λ ne s. (λ l. ((without_exactly f code a s).0 l).1, λ found. (without_exactly f code a s).1 (ne, found)))

pub editing : Editing
editing =
    record {
      put_in_list = λ words accept code schedule a s. with_exactly (wf words accept code) code a s schedule;
      take_out_list = λ words accept code a s. without_exactly (wf words accept code) code a s;
      put_in = put_in;
      take_out = take_out;
      put_in_lookup = put_in_lookup;
      take_out_lookup = take_out_lookup;
    }
