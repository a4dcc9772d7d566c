-- The changed list of a table, and how it is listed. The pairs of the cells stand in another order than by rising code, and so do the changed ones.
use Prim.Native.Nat.{ℕ, ◌+◌, ◌-◌, ◌≤◌}
use native.Mathlib.Omega.{arith}
use mathlib.Core.Bool.{Bool}
use mathlib.Core.List.Permᴰ
use mathlib.Core.List.{List, [], ◌∷◌, ◌++◌, map, map-append, append_assoc, Permᴰ}
use mathlib.Core.Path.{◌≡◌, refl, sym, ap, ◌∙◌}
use borrow.Rule.Slice.PartMut.{mid_of, put_mid, mid_len}
use lib.ListN.{length, get_or, set, take, length-map, length-append}
use lib.Seq.{take_at}
use Rattle.hash.proofs.Orders.{perm_length}
use Rattle.hash.proofs.Permuted.{perm_map}
use Rattle.std.specs.Prelude.{Option, Some, None, is_some}
use mir.Val.{bool_byte}
use Rattle.prelude.specs.Pairs.{Pair, codes_of}
use Rattle.table.specs.Words.{code_count, cell_count, total}
use Rattle.audit.specs.Check.{all_codes}
use Rattle.reader.specs.Pairs.{all_schedules, stored, pairs_in}
use Rattle.sorting.proofs.Rising.{rising_perm}
use Rattle.search.specs.code.Searchable.{Searchable}
use Rattle.writer.specs.code.Valid.{ValidBuilt, OneBuilt}
use Rattle.writer.proofs.Totals.{one_valid}
use Rattle.editor.specs.Edit.{without}
use Rattle.reader.specs.code.Gathering.{other_count, others, Gatherable, Gathered}
use Rattle.editor.specs.code.Changes.{pairs_with, new_pairs, changed, NewListed, Changing, Roomy, Listed, ChangedBuilt}
use Rattle.editor.specs.declared.changes.Change.{Change}
use Rattle.editor.proofs.Others.{without_perm}
use Rattle.reader.proofs.Gathering.{others_count}
use Rattle.reader.proofs.Cells.{cells_from, held_from, cells_are_all, held_are_all, held_same}
use Rattle.editor.proofs.Reordered.{codes_long, same_long, searchable_order, built_order}

-- ---- the pairs of a table, by rising code and by rising cell

abbrev in_cells : List ℕ → List Pair
in_cells words = stored (all_codes words) (all_schedules words)

pairs_perm : (words : List ℕ) → Permᴰ (pairs_in words) (in_cells words)
unfolding pairs_in
pairs_perm words = rising_perm (in_cells words)

changed_perm : (words : List ℕ) (x : Change) → Permᴰ (changed x (pairs_in words)) (changed x (in_cells words))
unfolding changed
changed_perm words x = Permᴰ.append_left (new_pairs x) (without_perm x.code (pairs_perm words))

-- how many there are
pub changed_long : {words : List ℕ} {x : Change} → Changing words x → length (codes_of (changed x (pairs_in words))) ≡ length (new_pairs x) + x.others
unfolding changed
changed_long {words} {x} h =
    codes_long (new_pairs x ++ without x.code (pairs_in words))
    ∙ length-append (new_pairs x) (without x.code (pairs_in words))
    ∙ omega (arith, h.others_are)

-- the new pair counts as the test whether there is a schedule
pub new_count : (x : Change) {r : ℕ} {b : Bool} → r ≡ bool_byte b → b ≡ is_some x.schedule → r ≡ length (new_pairs x)
new_count x e is = e ∙ ap bool_byte is ∙ go x.code x.schedule
  where
    go : (code : ℕ) (schedule : Option ℕ) → bool_byte (is_some schedule) ≡ length (pairs_with code schedule)
    go code None = refl
    go code (Some schedule) = refl

-- places are as many after a call
pub roomy_kept :
    {x : Change} {codes schedules codes' schedules' : List ℕ} → Roomy x codes schedules → length codes' ≡ length codes → length schedules' ≡ length schedules
    → Roomy x codes' schedules'
roomy_kept r e f = record { some = omega (arith, r.some); codes_long = omega (arith, r.codes_long); same = f ∙ r.same ∙ sym e }

-- the first place of a list takes a number of the new pair
set_front : (list : List ℕ) (v : ℕ) → 1 ≤ length list → take 1 (set list 0 v) ≡ v ∷ []
set_front [] v l = absurd (omega arith)
set_front (y ∷ list) v l = refl

pub new_listed :
    (x : Change) (codes schedules : List ℕ) {s : ℕ} → x.schedule ≡ Some s → 1 ≤ length codes → 1 ≤ length schedules
    → NewListed x 1 (set codes 0 x.code) (set schedules 0 s)
new_listed x codes schedules {s} e l m =
    record { size = rw e refl; codes_are = rw e (set_front codes x.code l); schedules_are = rw e (set_front schedules s m) }

pub none_listed : (x : Change) {codes schedules : List ℕ} → x.schedule ≡ None → NewListed x 0 codes schedules
none_listed x e = record { size = rw e refl; codes_are = rw e refl; schedules_are = rw e refl }

-- ---- the first places of a list, which hold a number of each new pair, and those of the others gathered after them

listed_column :
    (g : Pair → ℕ) (new left : List Pair) (n m : ℕ) (list part rest : List ℕ) → n ≡ length new → take n list ≡ map g new → m ≡ length left
    → part ≡ map g left → take (n + m) (take n list ++ (part ++ rest)) ≡ map g (new ++ left)
listed_column g new left n m list part rest long front size is =
    let both : length (map g new ++ map g left) ≡ n + m
    = length-append (map g new) (map g left) ∙ omega (arith, length-map new g, length-map left g) in
    rw (front, is, ← append_assoc (map g new) (map g left) rest, take_at (map g new ++ map g left) rest (n + m) both)
    (sym (map-append g new left))

-- ---- the parts of the words and of the lists

-- the places of a list that the others are gathered into, from place n on, and the list with a part in their place
module _ (n m : ℕ) (list : List ℕ) where
  abbrev places : List ℕ
  places = mid_of n (n + m - n) list

  abbrev with_part : List ℕ → List ℕ
  with_part part = put_mid n (n + m - n) list part

  places_long : n + m ≤ length list → length places ≡ m
  places_long room = mid_len n (n + m) list room ∙ omega arith

module _ (words : List ℕ) (n c : ℕ) (codes_are : n ≡ code_count words) (cells_are : c ≡ cell_count words) where
  pub counted : (code : ℕ) → total words ≤ length words → other_count code (cells_from words n c) ≡ length (without code (pairs_in words))
  unfolding others without
  counted code whole =
      ap (other_count code) (cells_are_all words codes_are cells_are)
      ∙ sym (others_count code (all_codes words) (all_schedules words) (held_same words whole))
      ∙ sym (perm_length (without_perm code (pairs_perm words)))

  others_long : {x : Change} → Changing words x → x.others ≡ length (others x.code (all_codes words) (all_schedules words))
  unfolding others without
  others_long {x} h = h.others_are ∙ perm_length (without_perm x.code (pairs_perm words))

  module _ {x : Change} (h : Changing words x) {f : ℕ} {codes schedules : List ℕ} (new : NewListed x f codes schedules) (r : Roomy x codes schedules) where
    pub gatherable : Gatherable x.code (cells_from words n c) (held_from words n c) (places f x.others codes) (places f x.others schedules)
    gatherable =
        rw (cells_are_all words codes_are cells_are, held_are_all words codes_are cells_are)
        (record {
          same = held_same words h.whole;
          codes_long = places_long f x.others codes (omega (arith, new.size, r.codes_long)) ∙ others_long h;
          schedules_long = places_long f x.others schedules (omega (arith, new.size, r.codes_long, r.same)) ∙ others_long h;
        })

    pub listed : {part parts : List ℕ} → Gathered (others x.code (cells_from words n c) (held_from words n c)) part parts → Listed words x (take (f + x.others) (with_part f x.others codes part)) (take (f + x.others) (with_part f x.others schedules parts))
    unfolding changed others without
    listed g =
        let g = rw (cells_are_all words codes_are cells_are, held_are_all words codes_are cells_are) at g in
        record {
          codes_are = listed_column (λ (y : Pair). y.code) (new_pairs x) _ f x.others codes _ _ new.size new.codes_are (others_long h) g.codes_are;
          schedules_are =
              listed_column (λ (y : Pair). y.schedule) (new_pairs x) _ f x.others schedules _ _ new.size new.schedules_are (others_long h) g.schedules_are;
        }

-- ---- the table of the changed list

module _
    {p : ℕ} (words : List ℕ) (x : Change) (codes schedules : List ℕ) (s : Searchable p (codes_of (changed x (pairs_in words))))
    (l : Listed words x codes schedules)
  where
    pub listed_searchable : Searchable p codes
    listed_searchable = rw l.codes_are (searchable_order (changed_perm words x) s)

    pub listed_same : length schedules ≡ length codes
    listed_same = rw (l.codes_are, l.schedules_are) (same_long (changed x (in_cells words)))

    pub listed_built : {second second' : List ℕ} {total : ℕ} → ValidBuilt p codes schedules second total second' → ChangedBuilt p words x second total second'
    listed_built b = built_order (changed_perm words x) s (rw (l.codes_are, l.schedules_are) at b)

-- as many places as changed pairs
pub listed_long : {words : List ℕ} {x : Change} {codes schedules : List ℕ} → Changing words x → Listed words x codes schedules → length codes ≡ length (new_pairs x) + x.others
listed_long {words} {x} h l =
    ap length l.codes_are ∙ sym (perm_length (perm_map (λ (r : Pair). r.code) (changed_perm words x))) ∙ changed_long h

-- a list of one pair
pub alone_built :
    {p : ℕ} (words : List ℕ) (x : Change) (codes schedules : List ℕ) → Searchable p (codes_of (changed x (pairs_in words))) → Listed words x codes schedules
    → length codes ≡ 1 → {second second' : List ℕ} {total : ℕ} → OneBuilt (get_or codes 0 0) (get_or schedules 0 0) second total second'
    → ChangedBuilt p words x second total second'
alone_built words x [] schedules s l one b = absurd (omega arith)
alone_built words x (a ∷ y ∷ codes) schedules s l one b = absurd (omega arith)
alone_built words x (a ∷ []) [] s l one b = absurd (omega (arith, listed_same words x _ _ s l))
alone_built words x (a ∷ []) (v ∷ w ∷ schedules) s l one b = absurd (omega (arith, listed_same words x _ _ s l))
alone_built words x (a ∷ []) (v ∷ []) s l one b = listed_built words x _ _ s l (one_valid (listed_searchable words x _ _ s l) b)

no_pairs : (pairs : List Pair) → length pairs ≡ 0 → pairs ≡ []
no_pairs [] e = refl
no_pairs (y ∷ pairs) e = absurd (omega arith)

-- the new pair alone
pub new_alone_built :
    {p : ℕ} (words : List ℕ) (x : Change) {v : ℕ} → Searchable p (codes_of (changed x (pairs_in words))) → Changing words x → x.schedule ≡ Some v
    → length (new_pairs x) + x.others ≡ 1 → {second second' : List ℕ} {total : ℕ} → OneBuilt x.code v second total second'
    → ChangedBuilt p words x second total second'
unfolding changed
new_alone_built words x {v} s h e one b =
    let one = rw e at one in
    let none : without x.code (pairs_in words) ≡ [] = no_pairs _ (sym h.others_are ∙ omega (arith, one)) in
    rw (e, none) (one_valid (rw (e, none) at s) b)
