-- `number::multiple::not_multiple_bits` meets its contract: each return, by the magnitudes of the two patterns. Assumes nothing.
use Rattle.std.proofs.Common.{◌*◌, ◌^◌, ℕ, refl, ◌∙◌, ap₂, arith}
use Rattle.number.specs.Magnitude.{above_step}
use Rattle.number.proofs.Cases.{no-dividend, no-divisor, divisor-zero, lower, higher}
use Rattle.number.proofs.multiple.not_multiple_bits.Goals as goal

pub returns-then-dividend-ge-INFINITE : goal.returns-then-dividend-ge-INFINITE
returns-then-dividend-ge-INFINITE c = no-dividend c.args.value c.args.multiple _ _ refl refl c.if-dividend-ge-INFINITE.true

pub returns-then-divisor-gt-INFINITE : goal.returns-then-divisor-gt-INFINITE
returns-then-divisor-gt-INFINITE c = no-divisor c.args.value c.args.multiple _ _ refl refl c.if-divisor-gt-INFINITE.true

pub returns-then-divisor-eq0 : goal.returns-then-divisor-eq0
returns-then-divisor-eq0 c = divisor-zero c.args.value c.args.multiple _ _ refl refl c.if-divisor-eq0.true

pub returns-then-high-low : goal.returns-then-high-low
returns-then-high-low c =
    c.is_above.ensures
    ∙ ap₂ (λ (r k : ℕ). above_step (r * 2 ^ k)) c.significand-rest.ensures c.power-high.ensures
    ∙ lower c.args.value c.args.multiple _ _ refl refl c.if-dividend-ge-INFINITE.false c.if-divisor-gt-INFINITE.false (omega arith) (rw (← c.power-high.ensures, ← c.power-low.ensures) c.if-high-low.true)

pub returns-else-high-low : goal.returns-else-high-low
returns-else-high-low c =
    c.is_above-else-high-low.ensures
    ∙ ap₂ (λ (r k : ℕ). above_step (r * 2 ^ k)) (cc) c.power-low.ensures
    ∙ higher c.args.value c.args.multiple _ _ refl refl c.if-dividend-ge-INFINITE.false c.if-divisor-gt-INFINITE.false (omega arith) (rw (← c.power-high.ensures, ← c.power-low.ensures) c.if-high-low.false)
