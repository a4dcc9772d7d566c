-- Which answers each operation gives: refusals stand one below the other, so one law over a list of tests serves every operation.
use Prim.Native.Nat.{ℕ, ◌-◌, ◌%◌, ◌<◌}
use native.Mathlib.Omega.{arith}
use mathlib.Core.Bool.{Bool, true, false, not, ◌&&◌, ◌||◌, true≢false}
use mathlib.Core.List.{List, [], ◌∷◌, ◌++◌}
use mathlib.Core.Logic.{◌⊎◌, inl, inr, ⊎_elim}
use mathlib.Core.Path.{◌≡◌, refl, sym}
use borrow.Author.Tests.{eqb-true, eqb-false}
use lib.Dec.{eqb, ltb}
use lib.ListN.{length, get_or}
use Rattle.prelude.specs.Answers.{Answer, given, absent, unknown, refused, refuse, or_refused, first_of, some, outside}
use Rattle.prelude.specs.Pairs.{Pair, among, codes_of}
use Rattle.table.specs.Words.{code_count, cell_count, total}
use Rattle.table.specs.TwoLevel.{words_needed}
use Rattle.lookup.specs.Lookup.{lookup_of}
use Rattle.prelude.proofs.Refusals.{Refusal}
use Rattle.lookup.proofs.Tells.{Tells, lookup_tells}
use Rattle.panel.specs.Panel.{bad_holds, ended_of, walk_of, panel_of}
use Rattle.panel.proofs.Walking.{goes_on, walk_cases}
use Rattle.audit.specs.Check.{check_of}
use Rattle.audit.proofs.WellFormed as Check
use Rattle.reader.specs.Pairs.{pairs_in, pairs_of}
use Rattle.lists.specs.List.{list_or}
use Rattle.lists.proofs.Valid.{tests, then_or}
use Rattle.builder.specs.Build.{build_of}
use Rattle.editor.specs.Edit.{without, with_pair, present, rebuilt, insert_of, remove_of}
use Rattle.files.specs.Bytes.{words_of}
use Rattle.listing.specs.Listing.{file_of}
use Rattle.suppliers.specs.Text.{lines_of}
use Rattle.suppliers.specs.Lists.{faulty_line, read_list_of, list_text, write_list_of}
use Rattle.generator.specs.TestLoad.{generate_of}
use Rattle.demands.specs.Answered.{ResultOr, LookupAnswer, PanelAnswer}
use Rattle.demands.specs.Theorems.{check_alone, check_valued, Answering}

-- ---- results and refusals

-- the number of each test is one of those that come with a value, or of those that come with 0, and does
abbrev counted : List ℕ → List ℕ → List Refusal → Bool
counted alone valued [] = true
counted alone valued (r ∷ rs) = (among r.number valued || (among r.number alone && eqb r.value 0)) && counted alone valued rs

and_true : (a b : Bool) → a && b ≡ true → (a ≡ true) × (b ≡ true)
and_true true b e = (refl, e)
and_true false b e = absurd (true≢false (sym e))

or_true : (a b : Bool) → a || b ≡ true → (b ≡ true) ⊎ (a ≡ true)
or_true true b e = inr refl
or_true false b e = inl e

module _ (result alone valued : List ℕ) where
  -- one test before an answer
  test_first :
      (fails : Bool) (number value : ℕ) (rest : Answer) → among number valued || (among number alone && eqb value 0) ≡ true
      → ResultOr result alone valued rest → ResultOr result alone valued (refuse fails number value rest)
  unfolding ResultOr
  test_first true number value rest one r =
      elim (or_true (among number valued) (among number alone && eqb value 0) one) [
        | inl zero_one ↦
            let (there, none) = and_true (among number alone) (eqb value 0) zero_one in
            inl (there, eqb-true value 0 none)
        | inr there ↦ inr there
      ]
  test_first false number value rest one r = r

  -- tests before an answer
  tests_first :
      (rs : List Refusal) (rest : Answer) → counted alone valued rs ≡ true → ResultOr result alone valued rest
      → ResultOr result alone valued (then_or rs rest)
  tests_first [] rest all r = r
  tests_first (t ∷ rs) rest all r =
      let (one, more) = and_true _ _ all in
      test_first t.fails t.number t.value (then_or rs rest) one (tests_first rs rest more r)

  done : ResultOr result alone valued (given result)
  unfolding ResultOr
  done = refl

  -- the refusals of an earlier answer before another
  refused_first :
      (values : List ℕ) (earlier rest : Answer) → ResultOr values alone valued earlier → ResultOr result alone valued rest
      → ResultOr result alone valued (or_refused earlier rest)
  unfolding ResultOr
  refused_first values (given vs) rest e r = r
  refused_first values absent rest e r = absurd e
  refused_first values (unknown i) rest e r = absurd e
  refused_first values (refused number value) rest e r = e

-- the check, with any numbers beside its own
check_answers :
    (alone valued : List ℕ) (p limit : ℕ) (words : List ℕ) → counted alone valued (Check.tests p limit words) ≡ true
    → ResultOr (code_count words ∷ total words ∷ []) alone valued (check_of p limit words)
unfolding check_of Check.tests Check.first_refusal
check_answers alone valued p limit words all =
    tests_first (code_count words ∷ total words ∷ []) alone valued (Check.tests p limit words) (given (code_count words ∷ total words ∷ [])) all (done _ alone valued)

-- the refusals of a check before another answer
checked_first :
    (result alone valued : List ℕ) (p limit : ℕ) (words : List ℕ) (rest : Answer)
    → counted alone valued (Check.tests p limit words) ≡ true → ResultOr result alone valued rest
    → ResultOr result alone valued (or_refused (check_of p limit words) rest)
checked_first result alone valued p limit words rest all r =
    refused_first result alone valued _ (check_of p limit words) rest (check_answers alone valued p limit words all) r

module _ (p limit : ℕ) where
  build_answers :
      (codes schedules : List ℕ) (lent : ℕ)
      → ResultOr (words_needed p codes ∷ []) (1 ∷ 2 ∷ []) (3 ∷ 4 ∷ 5 ∷ 6 ∷ []) (build_of p limit codes schedules lent)
  unfolding build_of list_or among
  build_answers codes schedules lent =
      let result = words_needed p codes ∷ [] in
      tests_first result (1 ∷ 2 ∷ []) (3 ∷ 4 ∷ 5 ∷ 6 ∷ []) (tests p limit codes schedules) _ refl
      (test_first result (1 ∷ 2 ∷ []) (3 ∷ 4 ∷ 5 ∷ 6 ∷ []) (ltb lent (words_needed p codes)) 6 (words_needed p codes) (given result) refl
      (done result _ _))

  pairs_answers :
      (words codes schedules : List ℕ)
      → ResultOr (code_count words ∷ []) check_alone (check_valued ++ (41 ∷ [])) (pairs_of p limit words codes schedules)
  unfolding pairs_of among Check.tests Check.first_refusal
  pairs_answers words codes schedules =
      let result = code_count words ∷ [] in
      checked_first result check_alone (check_valued ++ (41 ∷ [])) p limit words _ refl
      (test_first result check_alone (check_valued ++ (41 ∷ []))
      (ltb (length codes) (code_count words) || ltb (length schedules) (code_count words))
      41 (code_count words) (given result) refl (done result _ _))

  -- an edit from 54 on
  rebuilt_answers :
      (alone valued : List ℕ) (pairs : List Pair) (lent : ℕ) → among 54 valued ≡ true
      → ResultOr (words_needed p (codes_of pairs) ∷ []) alone valued (rebuilt p pairs lent)
  unfolding rebuilt
  rebuilt_answers alone valued pairs lent one =
      let result = words_needed p (codes_of pairs) ∷ [] in
      test_first result alone valued (ltb lent (words_needed p (codes_of pairs))) 54 (words_needed p (codes_of pairs)) (given result) (rw one)
      (done result alone valued)

  insert_answers :
      (words : List ℕ) (code schedule lent : ℕ)
      → ResultOr (words_needed p (codes_of (with_pair code schedule (pairs_in words))) ∷ []) (51 ∷ 52 ∷ check_alone ++ (53 ∷ []))
      (check_valued ++ (54 ∷ []))
      (insert_of p limit words code schedule lent)
  unfolding insert_of among Check.tests Check.first_refusal
  insert_answers words code schedule lent =
      let result = words_needed p (codes_of (with_pair code schedule (pairs_in words))) ∷ [] in
      let alone = 51 ∷ 52 ∷ check_alone ++ (53 ∷ []) in
      let valued = check_valued ++ (54 ∷ []) in
      test_first result alone valued (outside 1 (p - 1) code) 51 0 _ refl
      (test_first result alone valued (outside 1 999 schedule) 52 0 _ refl
      (checked_first result alone valued p limit words _ refl
      (test_first result alone valued (not (present words code) && eqb (code_count words) limit) 53 0 _ refl
      (rebuilt_answers alone valued (with_pair code schedule (pairs_in words)) lent refl))))

  remove_answers :
      (words : List ℕ) (code lent : ℕ)
      → ResultOr (words_needed p (codes_of (without code (pairs_in words))) ∷ []) (51 ∷ check_alone ++ (55 ∷ []))
      (check_valued ++ (54 ∷ []))
      (remove_of p limit words code lent)
  unfolding remove_of among Check.tests Check.first_refusal
  remove_answers words code lent =
      let result = words_needed p (codes_of (without code (pairs_in words))) ∷ [] in
      let alone = 51 ∷ check_alone ++ (55 ∷ []) in
      let valued = check_valued ++ (54 ∷ []) in
      test_first result alone valued (outside 1 (p - 1) code) 51 0 _ refl
      (checked_first result alone valued p limit words _ refl
      (test_first result alone valued (not (present words code)) 55 0 _ refl
      (rebuilt_answers alone valued (without code (pairs_in words)) lent refl)))

  file_answers :
      (bytes : List ℕ)
      → ResultOr (code_count (words_of bytes) ∷ total (words_of bytes) ∷ []) (61 ∷ 62 ∷ check_alone) check_valued (file_of p limit bytes)
  unfolding file_of among Check.tests Check.first_refusal
  file_answers bytes =
      let result = code_count (words_of bytes) ∷ total (words_of bytes) ∷ [] in
      test_first result (61 ∷ 62 ∷ check_alone) check_valued (ltb 65536 (length bytes)) 61 0 _ refl
      (test_first result (61 ∷ 62 ∷ check_alone) check_valued (not (eqb (length bytes % 4) 0)) 62 0 _ refl
      (check_answers (61 ∷ 62 ∷ check_alone) check_valued p limit (words_of bytes) refl))

-- ---- texts

read_list_answers :
    (text : List ℕ) (codes schedules : ℕ)
    → ResultOr (length (lines_of text) ∷ []) [] (71 ∷ 72 ∷ []) (read_list_of text codes schedules)
unfolding read_list_of among
read_list_answers text codes schedules =
    let result = length (lines_of text) ∷ [] in
    test_first result [] (71 ∷ 72 ∷ []) (some (length (lines_of text)) (faulty_line text)) 71 (first_of (length (lines_of text)) (faulty_line text)) _ refl
    (test_first result [] (71 ∷ 72 ∷ []) (ltb codes (length (lines_of text)) || ltb schedules (length (lines_of text))) 72 (length (lines_of text))
    (given result) refl (done result _ _))

write_list_answers :
    (limit : ℕ) (codes schedules : List ℕ) (lent : ℕ)
    → ResultOr (length (list_text codes schedules) ∷ []) (1 ∷ 2 ∷ []) (72 ∷ []) (write_list_of limit codes schedules lent)
unfolding write_list_of among
write_list_answers limit codes schedules lent =
    let needed = length (list_text codes schedules) in
    let result = needed ∷ [] in
    test_first result (1 ∷ 2 ∷ []) (72 ∷ []) (not (eqb (length codes) (length schedules))) 1 0 _ refl
    (test_first result (1 ∷ 2 ∷ []) (72 ∷ []) (ltb limit (length codes)) 2 0 _ refl
    (test_first result (1 ∷ 2 ∷ []) (72 ∷ []) (ltb lent needed) 72 needed (given result) refl (done result _ _)))

-- ---- loads

generate_answers : (limit n codes schedules : ℕ) → ResultOr (n ∷ []) (73 ∷ []) [] (generate_of limit n codes schedules)
unfolding generate_of among
generate_answers limit n codes schedules =
    test_first (n ∷ []) (73 ∷ []) [] (ltb limit n || (ltb codes n || ltb schedules n)) 73 0 (given (n ∷ [])) refl (done (n ∷ []) _ _)

-- ---- lookups

module _ (p limit : ℕ) (words : List ℕ) (a : ℕ) where
  told_answers : (answer : Answer) → Tells p words a answer → LookupAnswer (cell_count words) answer
  unfolding Tells LookupAnswer
  told_answers (given values) r = (_, _, r.found, r.from_one, r.to_999, r.below)
  told_answers absent r = tt
  told_answers (unknown i) r = r
  told_answers (refused number value) r = r

  lookup_answers : LookupAnswer (cell_count words) (lookup_of p limit words a)
  lookup_answers = told_answers (lookup_of p limit words a) (lookup_tells p words a limit)

-- ---- panels

-- a code that ends a panel of n codes
ended_answers : (c n i : ℕ) (a : Answer) → i < n → LookupAnswer c a → PanelAnswer c n (ended_of a i)
unfolding PanelAnswer LookupAnswer
ended_answers c n i (given values) l r = inl (inr refl, l)
ended_answers c n i absent l r = l
ended_answers c n i (unknown j) l r = absurd r
ended_answers c n i (refused number value) l (from, to, none) = inl (inl (from, to), l)

-- and one that decides it
found_answers : (c n : ℕ) (a : Answer) {values : List ℕ} → a ≡ given values → LookupAnswer c a → PanelAnswer c n a
unfolding PanelAnswer LookupAnswer
found_answers c n a e r = rw e (rw e at r)

-- 35, 36 or 74 before an answer
panel_test :
    (c n : ℕ) (fails : Bool) (number : ℕ) (rest : Answer) → among number (35 ∷ 36 ∷ 74 ∷ []) ≡ true → (fails ≡ false → PanelAnswer c n rest)
    → PanelAnswer c n (refuse fails number 0 rest)
unfolding PanelAnswer
panel_test c n true number rest there r = inr (there, refl)
panel_test c n false number rest there r = r refl

module _ (p limit : ℕ) (words holds codes : List ℕ) where
  walk_answers : 0 < length codes → PanelAnswer (cell_count words) (length codes) (walk_of p limit words holds codes)
  walk_answers some =
      ⊎_elim
      (λ (i, stops).
      rw stops.walked (ended_answers _ _ i _ stops.in_panel (lookup_answers p limit words (get_or codes i 0))))
      (λ (x, goes).
      let (s, i, u) = goes_on p limit words codes holds x (goes.none_ends x goes.decides.in_panel) in
      rw goes.walked (found_answers _ _ _ u.found (lookup_answers p limit words (get_or codes x 0))))
      (walk_cases p limit words codes holds some)

  panel_answers : PanelAnswer (cell_count words) (length codes) (panel_of p limit words holds codes)
  unfolding panel_of among
  panel_answers =
      panel_test _ _ (eqb (length codes) 0) 35 _ refl
      (λ some.
      panel_test _ _ (ltb 64 (length codes)) 36 _ refl
      (λ _.
      panel_test _ _ (bad_holds holds) 74 _ refl
      (λ _. let no_codes = eqb-false (length codes) 0 some in walk_answers (omega arith))))

pub answering : Answering
unfolding among Check.tests Check.first_refusal
answering =
    record {
      build = build_answers 65537 2048;
      check = λ words. check_answers check_alone check_valued 65537 2048 words refl;
      lookup = lookup_answers 65537 2048;
      panel = panel_answers 65537 2048;
      pairs = pairs_answers 65537 2048;
      insert = insert_answers 65537 2048;
      remove = remove_answers 65537 2048;
      file = file_answers 65537 2048;
      read_list = read_list_answers;
      write_list = write_list_answers 2048;
      generate = generate_answers 2048;
    }
