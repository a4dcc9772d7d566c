-- `panel::lookup_in` meets its contract: past the sizes, a lookup is its block's answer.
use Prim.Native.Nat.{ℕ}
use mathlib.Core.Path.{◌∙◌, sym, ap, ap₂}
use native.Mathlib.Omega.{arith}
use Rattle.hash.specs.Hash.{hash_of}
use Rattle.table.specs.Words.{block_of}
use Rattle.lookup.specs.Lookup.{in_block}
use Rattle.table.proofs.Sizing.{sized}
use Rattle.prelude.proofs.Laws.{below_prime}
use Rattle.lookup.proofs.Steps.{lookup_block}
use Rattle.panel.proofs.lookup_in.Goals as goal

pub in_block-requires : goal.in_block-requires
in_block-requires c = (
  below_prime _ _ (sym c.outside.ensures ∙ c.if-outside.false),
  record { whole = (sized c.requires.0.sizes).whole; below = omega (arith, c.wide-j.ensures.value, c.place_of.ensures.range, c.requires.1.blocks_is) },
)

pub returns : goal.returns
unfolding block_of
returns c =
    c.in_block.ensures
    ∙ ap (in_block c.args.h.prime c.args.words.now c.args.code)
    (c.wide-j.ensures.value ∙ c.place_of.ensures.value ∙ ap₂ (λ (k n : ℕ). hash_of c.args.h.prime k n c.args.code) c.requires.1.multiplier_is c.requires.1.blocks_is)
    ∙ sym (lookup_block _ _ _ _ (sym c.outside.ensures ∙ c.if-outside.false) c.requires.0.three c.requires.0.sizes (λ none. omega (arith, c.requires.0.some)))
