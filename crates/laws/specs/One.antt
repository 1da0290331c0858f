-- Document 01, "What the contracts pin": for each input a contract permits one answer and one content of what was lent. A public call's
-- contract is one equation, of its outcome (the result, and everything lent, at exit) with a definition over its input, so one shape
-- of statement and one law serve every call. Assumes nothing.
use Rattle.std.specs.Prelude.{◌≡◌}
use Rattle.std.proofs.Common.{sym, ◌∙◌}

-- what such a contract says of an outcome
abbrev pub Permits {ℓ} : {A : Type ℓ} → A → A → Type ℓ
Permits defined outcome = outcome ≡ defined

-- any two outcomes that it permits at the same input are equal
abbrev pub OneOutcome {ℓ} : {A : Type ℓ} → A → Type ℓ
OneOutcome {A} defined = (r r' : A) → Permits defined r → Permits defined r' → r ≡ r'

pub one-outcome {ℓ} : {A : Type ℓ} (defined : A) → OneOutcome defined
one-outcome defined r r' p q = p ∙ sym q
