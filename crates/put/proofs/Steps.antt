-- Where a schema leads: one step of the definition.
use Prim.Native.Nat.{ℕ, suc, ◌≤◌, ◌<◌}
use mathlib.Core.Path.{◌≡◌, ◌∙◌}
use mathlib.Core.List.{List}
use native.Mathlib.Omega.{arith}
use borrow.Author.Tests.{ne_eqb, le-leb, lt-leb}
use Rattle.layout.specs.Layout.{schema_word}
use Rattle.lookup.specs.Lookup.{resolve_of}
use Rattle.put.specs.Chase.{chase_in}
use Rattle.std.specs.Prelude.{Some, None, Result, Ok, Err}
use Rattle.error.specs.declared.Failure.{Failure}
use Rattle.error.specs.declared.Failure.TheVariants.{WrongNumber, TooDeep, UnknownReference}
use Rattle.put.specs.declared.Lead.{Lead}
use Rattle.put.specs.declared.Lead.TheVariants.{Leaf, Node}

-- X is the whole answer
module _ (P T R S : List ℕ) (us i k s kind : ℕ) (X : Result Lead Failure) (x : X ≡ chase_in P T R S us i s) (e : i ≡ suc k) (d : s < us) (q : kind ≡ schema_word S s 0) where
  pub chase_lazy : (w : ℕ) → kind ≡ 11 → w ≡ schema_word S s 3 → (w ≡ 1 → ⊥) → X ≡ Ok (Leaf s)
  unfolding chase_in
  chase_lazy w h a g = x ∙ rw (e, lt-leb us s d, ← q, ← a, h) (simp (ne_eqb w 1 g))

  pub chase_lost : (w name : ℕ) → kind ≡ 11 → w ≡ schema_word S s 3 → w ≡ 1 → name ≡ schema_word S s 2 → resolve_of P T R name ≡ None → X ≡ Err UnknownReference
  unfolding chase_in
  chase_lost w name h a g b l = x ∙ rw (e, lt-leb us s d, ← q, ← a, h, g, ← b, l)

  pub chase_more : (w name t : ℕ) → kind ≡ 11 → w ≡ schema_word S s 3 → w ≡ 1 → name ≡ schema_word S s 2 → resolve_of P T R name ≡ Some t → X ≡ chase_in P T R S us k t
  unfolding chase_in
  chase_more w name t h a g b l = x ∙ rw (e, lt-leb us s d, ← q, ← a, h, g, ← b, l)

  pub chase_low : (kind ≡ 11 → ⊥) → kind < 7 → X ≡ Ok (Leaf s)
  unfolding chase_in
  chase_low h g = x ∙ rw (e, lt-leb us s d, ← q) (simp (ne_eqb kind 11 h, lt-leb 7 kind g))

  pub chase_high : (kind ≡ 11 → ⊥) → 10 < kind → X ≡ Ok (Leaf s)
  unfolding chase_in
  chase_high h g = let m : 7 ≤ kind = omega arith in x ∙ rw (e, lt-leb us s d, ← q) (simp (ne_eqb kind 11 h, le-leb 7 kind m, lt-leb kind 10 g))

  pub chase_node : (kind ≡ 11 → ⊥) → 7 ≤ kind → kind ≤ 10 → X ≡ Ok (Node s k)
  unfolding chase_in
  chase_node h m g = x ∙ rw (e, lt-leb us s d, ← q) (simp (ne_eqb kind 11 h, le-leb 7 kind m, le-leb kind 10 g))

pub chase_none : (P T R S : List ℕ) (us i s : ℕ) (X : Result Lead Failure) → X ≡ chase_in P T R S us i s → i ≡ 0 → X ≡ Err TooDeep
unfolding chase_in
chase_none P T R S us i s X x e = x ∙ rw e

pub chase_out : (P T R S : List ℕ) (us i k s : ℕ) (X : Result Lead Failure) → X ≡ chase_in P T R S us i s → i ≡ suc k → us ≤ s → X ≡ Err WrongNumber
unfolding chase_in
chase_out P T R S us i k s X x e h = x ∙ rw (e, le-leb us s h)
