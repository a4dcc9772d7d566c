-- An edit of a well-formed table. How many pairs have other codes tells whether the table has the code, and so of 53 and 55; the changed list can be
-- built from: its codes are different and in range, and not too many.
use Prim.Native.Nat.{ℕ, suc, ◌≤◌}
use native.Mathlib.Decide.{dec_lt}
use native.Mathlib.Omega.{arith}
use mathlib.Core.Bool.{true, not, ◌&&◌, or-true}
use mathlib.Core.List.Memᴰ
use mathlib.Core.List.{List, [], ◌∷◌, Memᴰ}
use mathlib.Core.Logic.{inl, inr, ⊎_elim}
use mathlib.Core.Path.{◌≡◌, sym, ap, ◌∙◌}
use borrow.Author.Tests.{lt-ltb, le-ltb, eq-eqb, ne_eqb, ltb-true}
use lib.Dec.{eqb, ltb}
use lib.ListN.{length}
use Rattle.hash.specs.Theorems.{Prime}
use Rattle.hash.proofs.Indicators.{true_or_false}
use Rattle.prelude.specs.Answers.{Answer, given, refused, into_room}
use Rattle.prelude.specs.Limits.{room}
use Rattle.lookup.specs.Lookup.{lookup_of}
use Rattle.prelude.specs.Pairs.{Pair, codes_of, schedules_of, among}
use Rattle.table.specs.Words.{code_count}
use Rattle.table.specs.TwoLevel.{words_needed}
use Rattle.audit.specs.WellFormed.{WellFormed}
use Rattle.reader.specs.Pairs.{pairs_in}
use Rattle.reader.proofs.PairLaws.{pairs_length, pairs_codes, found_pairs}
use Rattle.search.specs.code.Searchable.{Searchable}
use Rattle.writer.specs.code.Valid.{ValidBuilt}
use Rattle.editor.specs.Edit.{without, with_pair, present, rebuilt}
use Rattle.editor.specs.code.Editing.{Outcome, InRange, Rebuilding, from_full, PutIn, from_there, TakenOut}
use Rattle.editor.proofs.Others.{without_le, without_ge, among_is, without_codes, with_codes}
use Rattle.editor.proofs.Reordered.{codes_long}

-- ---- the answers

-- a refusal keeps the second buffer
pub refusal :
    {expected : Answer} {table second : List ℕ} (number value : ℕ) → expected ≡ refused number value
    → Outcome expected table second (refused number value) second
refusal number value e = record { answers = sym e; second_at_exit = rw e }

-- 54: the test of 6, by another number
pub rebuilding :
    {p : ℕ} (xs : List Pair) {second second' : List ℕ} {total : ℕ} {answer : Answer} → ValidBuilt p (codes_of xs) (schedules_of xs) second total second'
    → answer ≡ into_room 54 total (length second) → Rebuilding p xs second answer second'
unfolding rebuilt
rebuilding {p} xs {second} b e =
    record {
      answers = rw (← b.totals) e;
      second_at_exit =
          elim (true_or_false (ltb (length second) (words_needed p (codes_of xs)))) [
            | inl short ↦ rw short (rw short at b.words_at_exit)
            | inr enough ↦ rw enough (rw enough at b.words_at_exit)
          ];
    }

-- ---- whether the code is there

mem_among : {a : ℕ} (s : List ℕ) → Memᴰ a s → among a s ≡ true
unfolding among
mem_among [] m = absurd (Memᴰ.not-nil m)
mem_among {a} (x ∷ s) m = ⊎_elim (λ e. rw (eq-eqb a x e)) (λ t. rw (mem_among {a = a} s t) (or-true (eqb a x))) (Memᴰ.cases_cons m)

module _ {p limit : ℕ} {words : List ℕ} (f : WellFormed p limit words) (code : ℕ) where
  -- how many pairs have other codes
  abbrev left : ℕ
  left = length (without code (pairs_in words))

  pub left_le : left ≤ code_count words
  left_le = omega (arith, without_le code (pairs_in words), pairs_length f)

  left_ge : code_count words ≤ suc left
  left_ge = omega (arith, without_ge code (pairs_in words) (pairs_codes f), pairs_length f)

  pub present_is : present words code ≡ ltb left (code_count words)
  unfolding present
  present_is = among_is code (pairs_in words) ∙ ap (ltb left) (pairs_length f)

  pub left_found : (s cell : ℕ) → lookup_of p limit words code ≡ given (s ∷ cell ∷ []) → suc left ≡ code_count words
  unfolding present
  left_found s cell e =
      let there : among code (codes_of (pairs_in words)) ≡ true
      = mem_among (codes_of (pairs_in words)) (Memᴰ.map (λ (x : Pair). x.code) (found_pairs f {r = record { code = code; schedule = s }} cell e)) in
      omega (arith, left_ge, ltb-true left (code_count words) (sym present_is ∙ there))

  -- ---- put in

  -- 53: the code is new and the table is full
  pub full_is : not (present words code) && eqb (code_count words) limit ≡ eqb left limit
  full_is =
      elim (dec_lt left (code_count words)) [
        | yes l ↦ rw (present_is, lt-ltb left (code_count words) l, ne_eqb left limit (λ e. omega (arith, f.few_codes)))
        | no g ↦
            let e : code_count words ≡ left = omega (arith, left_le) in
            rw (present_is, le-ltb left (code_count words) (omega arith), e)
      ]

  pub full : (schedule lent : ℕ) → left ≡ limit → from_full p limit words code schedule lent ≡ refused 53 0
  unfolding from_full
  full schedule lent e = rw (full_is, eq-eqb left limit e)

  pub put_outcome :
      (left ≡ limit → ⊥) → (schedule : ℕ) {second second' : List ℕ} {answer : Answer}
      → Rebuilding p (with_pair code schedule (pairs_in words)) second answer second'
      → PutIn p limit words code schedule second answer second'
  unfolding from_full
  put_outcome room schedule o = rw (full_is, ne_eqb left limit room) o

  pub with_few : (schedule : ℕ) → (left ≡ limit → ⊥) → length (codes_of (with_pair code schedule (pairs_in words))) ≤ limit
  unfolding with_pair
  with_few schedule room = omega (arith, codes_long (with_pair code schedule (pairs_in words)), left_le, f.few_codes)

  pub with_searchable :
      Prime p → limit ≤ room → (left ≡ limit → ⊥) → (schedule : ℕ) → InRange p code schedule
      → Searchable p (codes_of (with_pair code schedule (pairs_in words)))
  with_searchable prime small room schedule range =
      record {
        prime = prime;
        valid = with_codes code schedule (pairs_in words) range.code_from_one range.code_below (pairs_codes f);
        few = omega (arith, with_few schedule room);
      }

  -- ---- take out

  -- 55
  pub gone : (lent : ℕ) → left ≡ code_count words → from_there p words code lent ≡ refused 55 0
  unfolding from_there
  gone lent e = rw (present_is, le-ltb left (code_count words) (omega arith))

  pub out_outcome :
      (left ≡ code_count words → ⊥) → {second second' : List ℕ} {answer : Answer}
      → Rebuilding p (without code (pairs_in words)) second answer second' → TakenOut p words code second answer second'
  unfolding from_there
  out_outcome there o = rw (present_is, lt-ltb left (code_count words) (omega (arith, left_le))) o

  pub without_few : length (codes_of (without code (pairs_in words))) ≤ limit
  without_few = omega (arith, codes_long (without code (pairs_in words)), left_le, f.few_codes)

  pub without_searchable : Prime p → limit ≤ room → Searchable p (codes_of (without code (pairs_in words)))
  without_searchable prime small =
      record { prime = prime; valid = without_codes code (pairs_in words) (pairs_codes f); few = omega (arith, without_few) }
