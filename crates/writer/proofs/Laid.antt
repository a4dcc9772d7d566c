-- The words of a table in any state: reading them, and a store or a part put into what stands for one block, which leaves what stands for the others.
use Prim.Native.Nat.{ℕ, ◌+◌, ◌*◌, ◌<◌, ◌≤◌}
use mathlib.Core.List.{List, [], ◌∷◌, ◌++◌, append_assoc}
use mathlib.Core.Path.{◌≡◌, refl, sym, ap, ◌∙◌}
use native.Mathlib.Omega.{arith}
use lib.ListN.{length, get_or, take, drop, set, length-append}
use lib.Seq.{get_or-append-add, set-append_left}
use Rattle.hash.specs.Hash.{sum}
use Rattle.prelude.specs.Tabulate.{tabulate}
use Rattle.prelude.proofs.Tabulate.{tabulate_length, tabulate_head, tabulate_set, tabulate_ext}
use Rattle.placing.specs.code.Block.{put_at}
use Rattle.writer.specs.code.Writing.{joined, laid}
use Rattle.writer.specs.declared.write.Shape.{Shape}
use Rattle.placing.proofs.Parts.{part_is, part_back, set_past, set_in}
use Rattle.writer.proofs.Joined.{joined_ext, after, joined_split, after_ext, joined_length}

-- block j has w j cells
abbrev pub Wide : Shape → (ℕ → ℕ) → (ℕ → List ℕ) → Type 0
Wide shape w F = (j : ℕ) → j < shape.codes → length (F j) ≡ w j

-- g is f but for j
abbrev pub Beside : {A : Type 0} → Shape → ℕ → (ℕ → A) → (ℕ → A) → Type 0
Beside shape j f g = (i : ℕ) → i < shape.codes → (i ≡ j → ⊥) → g i ≡ f i

pub laid_ext :
    (shape : Shape) {s s' q q' : ℕ → ℕ} {F F' G G' : ℕ → List ℕ} → ((j : ℕ) → j < shape.codes → s j ≡ s' j) → ((j : ℕ) → j < shape.codes → q j ≡ q' j)
    → ((j : ℕ) → j < shape.codes → F j ≡ F' j) → ((j : ℕ) → j < shape.codes → G j ≡ G' j) → laid shape s q F G ≡ laid shape s' q' F' G'
laid_ext shape {s} {s'} {q} {q'} {F} {F'} {G} {G'} es eq eF eG =
    rw (
      tabulate_ext s s' shape.codes es,
      tabulate_ext q q' shape.codes eq,
      joined_ext F F' shape.codes eF,
      joined_ext G G' shape.codes eG,
    )
    refl

pub laid_length :
    (shape : Shape) (s q : ℕ → ℕ) (F G : ℕ → List ℕ) (w : ℕ → ℕ) → sum w shape.codes ≡ shape.cells → Wide shape w F → Wide shape w G
    → length (laid shape s q F G) ≡ 3 + 2 * shape.codes + 2 * shape.cells
laid_length shape s q F G w all wide wide-too =
    let n : ℕ = shape.codes in
    omega (
      arith,
      length-append (tabulate s n) (tabulate q n ++ (joined F n ++ joined G n)),
      length-append (tabulate q n) (joined F n ++ joined G n),
      length-append (joined F n) (joined G n),
      tabulate_length s n,
      tabulate_length q n,
      joined_length F w n wide,
      joined_length G w n wide-too,
    )

-- ---- the numbers

module _ (shape : Shape) (s q : ℕ → ℕ) (F G : ℕ → List ℕ) where
  abbrev n : ℕ
  n = shape.codes

  abbrev head : List ℕ
  head = shape.codes ∷ shape.cells ∷ shape.multiplier ∷ []

  abbrev behind : List ℕ
  behind = joined F n ++ joined G n

  pub laid_start : (j : ℕ) → j < n → get_or (laid shape s q F G) (3 + j) 0 ≡ s j
  laid_start j l =
      get_or-append-add head (tabulate s n ++ (tabulate q n ++ behind)) j 0 ∙ tabulate_head s n j (tabulate q n ++ behind) l

  pub store_start : (s' : ℕ → ℕ) (j : ℕ) → j < n → Beside shape j s s' → set (laid shape s q F G) (3 + j) (s' j) ≡ laid shape s' q F G
  store_start s' j l other =
      set_past head (tabulate s n ++ (tabulate q n ++ behind)) 3 j (s' j) refl
      ∙ ap (λ (t : List ℕ). head ++ t)
      (set-append_left (tabulate s n) (tabulate q n ++ behind) j (s' j) (omega (arith, tabulate_length s n))
      ∙ ap (λ (t : List ℕ). t ++ (tabulate q n ++ behind)) (tabulate_set s s' n j l other))

  pub store_multiplier : (q' : ℕ → ℕ) (j : ℕ) → j < n → Beside shape j q q' → set (laid shape s q F G) (3 + n + j) (q' j) ≡ laid shape s q' F G
  store_multiplier q' j l other =
      ap (λ (t : List ℕ). set t (3 + n + j) (q' j)) (sym (append_assoc head (tabulate s n) (tabulate q n ++ behind)))
      ∙ set_in (head ++ tabulate s n) (tabulate q n) behind (3 + n) j (q' j) (omega (arith, tabulate_length s n)) (omega (arith, tabulate_length q n))
      ∙ ap (λ (t : List ℕ). (head ++ tabulate s n) ++ (t ++ behind)) (tabulate_set q q' n j l other)
      ∙ append_assoc head (tabulate s n) (tabulate q' n ++ behind)

-- ---- the cells

-- a block's cells, where they stand in the words: what is before them, and after them
pub record Standing (words pre mid post : List ℕ) (a w : ℕ) : Type 0 where
  pub parts : words ≡ pre ++ (mid ++ post)
  pub from : length pre ≡ a
  pub size : length mid ≡ w

module _ {words pre mid post : List ℕ} {a w : ℕ} (h : Standing words pre mid post a w) where
  pub standing_read : take w (drop a words) ≡ mid
  standing_read = part_is words pre mid post h.parts a w h.from h.size

  standing_put : (new : List ℕ) → length new ≡ w → put_at a new words ≡ pre ++ (new ++ post)
  standing_put new same = rw same (part_back words pre mid post h.parts a w h.from h.size new)

  standing_set : (r v : ℕ) → r < w → set words (a + r) v ≡ pre ++ (set mid r v ++ post)
  standing_set r v l = ap (λ (t : List ℕ). set t (a + r) v) h.parts ∙ set_in pre mid post a r v h.from (omega (arith, h.size))

  pub standing_long : a + w ≤ length words
  standing_long = omega (arith, ap length h.parts, length-append pre (mid ++ post), length-append mid post, h.from, h.size)

module _ (shape : Shape) (s q : ℕ → ℕ) (F G : ℕ → List ℕ) (w : ℕ → ℕ) (all : sum w shape.codes ≡ shape.cells) (j : ℕ) (l : j < shape.codes) where
  abbrev m : ℕ
  m = shape.codes

  abbrev numbers : List ℕ
  numbers = (shape.codes ∷ shape.cells ∷ shape.multiplier ∷ []) ++ (tabulate s m ++ tabulate q m)

  numbers_length : length numbers ≡ 3 + 2 * m
  numbers_length = omega (arith, length-append (tabulate s m) (tabulate q m), tabulate_length s m, tabulate_length q m)

  abbrev before_codes : List ℕ
  before_codes = numbers ++ joined F j

  abbrev after_codes : List ℕ
  after_codes = after F m j ++ joined G m

  abbrev before_schedules : List ℕ
  before_schedules = numbers ++ (joined F m ++ joined G j)

  abbrev after_schedules : List ℕ
  after_schedules = after G m j

  codes_parts : (F' : ℕ → List ℕ) → Beside shape j F F' → laid shape s q F' G ≡ before_codes ++ (F' j ++ after_codes)
  codes_parts F' other =
      rw (
        joined_split F' m j l,
        joined_ext F' F j (λ i v. other i (omega arith) (λ e. omega arith)),
        after_ext F' F m j other,
      )
      (simp append_assoc refl)

  schedules_parts : (G' : ℕ → List ℕ) → Beside shape j G G' → laid shape s q F G' ≡ before_schedules ++ (G' j ++ after_schedules)
  schedules_parts G' other =
      rw (
        joined_split G' m j l,
        joined_ext G' G j (λ i v. other i (omega arith) (λ e. omega arith)),
        after_ext G' G m j other,
      )
      (simp append_assoc refl)

  module _ (wide : Wide shape w F) where
    pub codes_stand : Standing (laid shape s q F G) before_codes (F j) after_codes (3 + 2 * m + sum w j) (w j)
    codes_stand =
        record {
          parts = codes_parts F (λ i v ne. refl);
          from =
              omega (
                arith,
                length-append numbers (joined F j),
                numbers_length,
                joined_length F w j (λ i v. wide i (omega arith)),
              );
          size = wide j l;
        }

    module _ (F' : ℕ → List ℕ) (other : Beside shape j F F') where
      pub put_codes : length (F' j) ≡ w j → put_at (3 + 2 * m + sum w j) (F' j) (laid shape s q F G) ≡ laid shape s q F' G
      put_codes same = standing_put codes_stand (F' j) same ∙ sym (codes_parts F' other)

      pub store_code :
          (r v : ℕ) → r < w j → F' j ≡ set (F j) r v → set (laid shape s q F G) (3 + 2 * m + sum w j + r) v ≡ laid shape s q F' G
      store_code r v inside is =
          standing_set codes_stand r v inside
          ∙ ap (λ (t : List ℕ). before_codes ++ (t ++ after_codes)) (sym is)
          ∙ sym (codes_parts F' other)

    module _ (wide-too : Wide shape w G) where
      pub schedules_stand :
          Standing (laid shape s q F G) before_schedules (G j) after_schedules (3 + 2 * m + sum w j + shape.cells) (w j)
      schedules_stand =
          record {
            parts = schedules_parts G (λ i v ne. refl);
            from =
                omega (
                  arith,
                  length-append numbers (joined F m ++ joined G j),
                  length-append (joined F m) (joined G j),
                  numbers_length,
                  joined_length F w m wide,
                  joined_length G w j (λ i v. wide-too i (omega arith)),
                  all,
                );
            size = wide-too j l;
          }

      module _ (G' : ℕ → List ℕ) (other : Beside shape j G G') where
        pub put_schedules :
            length (G' j) ≡ w j → put_at (3 + 2 * m + sum w j + shape.cells) (G' j) (laid shape s q F G) ≡ laid shape s q F G'
        put_schedules same = standing_put schedules_stand (G' j) same ∙ sym (schedules_parts G' other)

        pub store_schedule :
            (r v : ℕ) → r < w j → G' j ≡ set (G j) r v
            → set (laid shape s q F G) (3 + 2 * m + sum w j + shape.cells + r) v ≡ laid shape s q F G'
        store_schedule r v inside is =
            standing_set schedules_stand r v inside
            ∙ ap (λ (t : List ℕ). before_schedules ++ (t ++ after_schedules)) (sym is)
            ∙ sym (schedules_parts G' other)
