-- A digest taken element by element, and what it is of words and of bytes.
use Prim.Native.Nat.{ℕ, ◌+◌, ◌*◌, ◌%◌, ◌<◌}
use mathlib.Core.List.{List, [], ◌∷◌, ◌++◌}
use mathlib.Core.Path.{◌≡◌, refl, ap, ◌∙◌}
use native.Mathlib.Omega.{arith}
use Rattle.std.specs.List.{AllZip, each_same}
use Rattle.digests.specs.Digest.{digest_after, digest_of, Digested}

after_append : (d : ℕ) (s : List ℕ) (x : ℕ) → digest_after d (s ++ (x ∷ [])) ≡ (digest_after d s * 65599 + x + 1) % 4294967291
unfolding digest_after
after_append d [] x = refl
after_append d (y ∷ s) x = after_append ((d * 65599 + y + 1) % 4294967291) s x

-- the digest of words or bytes is that of their numbers
pub digested_same : {numbers : List ℕ} {r : ℕ} → Digested (λ (x y : ℕ). y ≡ x) numbers r → r ≡ digest_of numbers
digested_same {numbers} f = f.digest ∙ ap digest_of (each_same numbers f.numbers f.converted)

-- one element more
zip_more : {T : Type 0} (R : T → ℕ → Type 0) (s : List T) (numbers : List ℕ) (x : T) (y : ℕ) → AllZip R s numbers → R x y → AllZip R (s ++ (x ∷ [])) (numbers ++ (y ∷ []))
zip_more R [] [] x y z h = (h, tt)
zip_more R [] (b ∷ numbers) x y z h = absurd z
zip_more R (a ∷ s) [] x y z h = absurd z
zip_more R (a ∷ s) (b ∷ numbers) x y z h = (z.0, zip_more R s numbers x y z.1 h)

pub record DigestSoFar {T : Type 0} (converts : T → ℕ → Type 0) (done : List T) (d : ℕ) : Type 0 where
  pub reduced : d < 4294967291
  pub digested : Digested converts done d

module _ {T : Type 0} {converts : T → ℕ → Type 0} where
  pub digest_start : DigestSoFar converts [] 0
  unfolding digest_of digest_after
  digest_start = record { reduced = omega arith; digested = record { numbers = []; converted = tt; digest = refl } }

  pub digest_more :
      {done : List T} {d : ℕ} {element : T} {x : ℕ} → DigestSoFar converts done d → converts element x
      → DigestSoFar converts (done ++ (element ∷ [])) ((d * 65599 + x + 1) % 4294967291)
  unfolding digest_of
  digest_more {done} {d} {element} {x} f h =
      let before = f.digested in
      record {
        reduced = omega arith;
        digested =
            record {
              numbers = before.numbers ++ (x ∷ []);
              converted = zip_more converts done before.numbers element x before.converted h;
              digest = rw (after_append 0 before.numbers x, before.digest);
            };
      }
