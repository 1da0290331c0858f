-- A record's tree stays when words are appended. Assumes nothing.
use Prim.Native.Nat.{ℕ, zero, suc, ◌<◌}
use mathlib.Core.Path.{◌≡◌, refl, ap, ◌∙◌}
use mathlib.Core.Bool.{Bool, true, false}
use mathlib.Core.List.{[], ◌∷◌}
use native.Mathlib.Omega.{arith}
use Rattle.text.specs.Choice.{pick}
use Rattle.schema.specs.Shape.{Names, detects, named, Shape, object}
use Rattle.schema.specs.Look.{Words, detecting, sort_names, sort_shape, raw, look}
use Rattle.grouping.specs.Record.{count}
use Rattle.grouping.specs.Tree.{Trees, view_body, view_at, view, nil, one, NamesIn, in_none, in_detects, in_named, Children, in_plain, in_any, in_all, in_array, in_object, in_ref, Ordered}
use Rattle.grouping.proofs.Reading.{view_same, view_is}
use Rattle.grouping.proofs.Growing.{Extends, Sound}

-- names that are sorted again name what they named
pub sort_names_lem : {P : ℕ → Type 0} (d : ℕ → Bool) {x : Names ℕ} → NamesIn P x → NamesIn P (sort_names d x)
unfolding sort_names
sort_names_lem d in_none = in_none
sort_names_lem d (in_detects p) = in_detects p
sort_names_lem d (in_named nil) = in_named nil
sort_names_lem {P} d (in_named (one {x = x} p nil)) = at (d x)
  where
    at : (b : Bool) → NamesIn P (pick b (detects x) (named (x ∷ [])))
    at true = in_detects p
    at false = in_named (one p nil)
sort_names_lem d (in_named (one p (one q qs))) = in_named (one p (one q qs))

pub sort_children : {P : ℕ → Type 0} (d : ℕ → Bool) {sh : Shape ℕ} → Children P sh → Children P (sort_shape d sh)
unfolding sort_shape
sort_children d in_plain = in_plain
sort_children d (in_any q) = in_any q
sort_children d (in_all q) = in_all q
sort_children d (in_array q) = in_array q
sort_children d (in_object q) = in_object (record { props = q.props; patterns = q.patterns; additional = q.additional; names = sort_names_lem d q.names })
sort_children d in_ref = in_ref

names_sorted : {P : ℕ → Type 0} (d e : ℕ → Bool) → ((x : ℕ) → P x → d x ≡ e x) → {x : Names ℕ} → NamesIn P x → sort_names d x ≡ sort_names e x
unfolding sort_names
names_sorted d e h in_none = refl
names_sorted d e h (in_detects p) = refl
names_sorted d e h (in_named nil) = refl
names_sorted d e h (in_named (one {x = x} p nil)) = rw (h x p)
names_sorted d e h (in_named (one p (one q qs))) = refl

sort_same : {P : ℕ → Type 0} (d e : ℕ → Bool) → ((x : ℕ) → P x → d x ≡ e x) → {sh : Shape ℕ} → Children P sh → sort_shape d sh ≡ sort_shape e sh
unfolding sort_shape
sort_same d e h in_plain = refl
sort_same d e h (in_any q) = refl
sort_same d e h (in_all q) = refl
sort_same d e h (in_array q) = refl
sort_same d e h (in_object {o = o} q) =
    ap (λ (x : Names ℕ). object (record { note = o.note; props = o.props; patterns = o.patterns; additional = o.additional; required = o.required; least = o.least; most = o.most; closed = o.closed; names = x; naming = o.naming }))
    (names_sorted d e h q.names)
sort_same d e h in_ref = refl

pub ordered : {t : Words} → Sound t → Ordered (look t) (count t)
unfolding look
ordered z s i = sort_children _ (z.placed.below s i)

pub look-kept : {t u : Words} → Sound t → Extends t u → (s : ℕ) → s < count t → look u s ≡ look t s
unfolding look
look-kept {t} {u} z e s i =
    ap (sort_shape (λ n. detecting (raw u n))) (z.steady s i u e) ∙
    sort_same (λ n. detecting (raw u n)) (λ n. detecting (raw t n)) (λ x p. ap detecting (z.steady x (omega arith) u e)) (z.placed.below s i)

module _ {N : Type 0} (B : Trees N) where
  view_at-kept : {t u : Words} → Sound t → Extends t u → (f s : ℕ) → s < count t → view_at B (look u) f s ≡ view_at B (look t) f s
  unfolding view_at
  view_at-kept z e zero s i = refl
  view_at-kept {t} {u} z e (suc f) s i =
      ap (view_body B (view_at B (look u) f)) (look-kept z e s i) ∙
      view_same B (view_at B (look u) f) (view_at B (look t) f) (λ x p. view_at-kept z e f x (omega arith)) (ordered z s i)

  pub view-kept : {t u : Words} → Sound t → Extends t u → (s : ℕ) → s < count t → view B (look u) s ≡ view B (look t) s
  unfolding view
  view-kept z e s i = view_at-kept z e (suc s) s i

  pub view_of : {t : Words} → Sound t → (s : ℕ) → s < count t → (sh : Shape ℕ) → raw t s ≡ sh → view B (look t) s ≡ view_body B (view B (look t)) (sort_shape (λ n. detecting (raw t n)) sh)
  unfolding look
  view_of {t} z s i sh e = view_is B (look t) (count t) (ordered z) s i ∙ ap (λ (x : Shape ℕ). view_body B (view B (look t)) (sort_shape (λ n. detecting (raw t n)) x)) e
