-- A plain object's links and its record appended. Assumes nothing.
use Prim.Native.Nat.{ℕ, zero, suc, ◌+◌, ◌*◌, ◌≤◌}
use mathlib.Core.Path.{◌≡◌, refl, sym, ap, ◌∙◌}
use mathlib.Core.Bool.{Bool, true, false}
use mathlib.Core.List.{List, ◌∷◌, ◌++◌}
use native.Mathlib.Omega.{arith}
use lib.ListN.{length, get_or, take}
use Rattle.layout.specs.Layout.{schema_word}
use Rattle.layout.specs.Rows.{object_row}
use Rattle.compilation.specs.State.{Source, Out, done, source_of, state_of, add_links}
use Rattle.compilation.specs.Table.{field, span, weld}
use Rattle.derive.specs.Meets.{Told, Ready, Ran, Finished}
use Rattle.put.specs.Meets.{Laid, Listed, laid_at, values_at}
use Rattle.put.specs.Chase.{chase_in, chase_at, is_fresh, num, next, weave_at, entry_words}
use Rattle.error.specs.declared.Used.{Used}
use Rattle.std.specs.Prelude.{Result}
use Rattle.error.specs.declared.Failure.{Failure}
use Rattle.put.specs.declared.Lead.{Lead}
use Rattle.append.proofs.Laws.{room_limit}
use Rattle.merge.proofs.Lists.{part_same}
use Rattle.derive.proofs.Build.{source_same, links-done, links_full, refused-built}
use Rattle.derive.proofs.Rows.{finish_built}

pub listed_small : (L L' : List ℕ) (ul count : ℕ) (new : List ℕ) (r : Bool) → Listed L L' ul count new r → r ≡ true → ul + count ≤ 16384
listed_small L L' ul count new r h e = room_limit 16384 (length L) ul count (sym h.yes ∙ e)

-- keys beside woven values are the words that are appended
pub weld_entries : (f : ℕ → Result Lead Failure) (L : List ℕ) (at n : ℕ) (X : List ℕ) (p : ℕ) → weld (span L at 2 n) (weave_at f (span L (at + 1) 2 n) X p) ≡ entry_words f L at n X p
unfolding weld span weave_at entry_words
weld_entries f L at zero X p = refl
weld_entries f L at (suc n) X p =
    let e : at + 1 + 2 ≡ at + 2 + 1 = omega arith in
    ap (λ (l : List ℕ). get_or L at 0 ∷ (num (f (get_or L (at + 1) 0)) (get_or X p 0) ∷ l)) (ap (λ (k : ℕ). weld (span L (at + 2) 2 n) (weave_at f (span L k 2 n) X (next (is_fresh (f (get_or L (at + 1) 0))) p))) e ∙ weld_entries f L (at + 2) n X (next (is_fresh (f (get_or L (at + 1) 0))) p))

pub entry_length : (f : ℕ → Result Lead Failure) (L : List ℕ) (at n : ℕ) (X : List ℕ) (p : ℕ) → length (entry_words f L at n X p) ≡ n * 2
unfolding entry_words
entry_length f L at zero X p = refl
entry_length f L at (suc n) X p = omega (arith, entry_length f L (at + 2) n X (next (is_fresh (f (get_or L (at + 1) 0))) p))

-- the leaf
module _ (P T R : List ℕ) (b u : Used) (below s : ℕ) (S L X : List ℕ) (sp mid additional names first count on patterns : ℕ) (rd : Ready b u X sp) (e2 : first ≡ schema_word (take (b.schemas * 16) S) s 2) (e3 : count ≡ schema_word (take (b.schemas * 16) S) s 3) (e4 : on ≡ schema_word (take (b.schemas * 16) S) s 4) (e5 : patterns ≡ schema_word (take (b.schemas * 16) S) s 5) where
  abbrev from : List ℕ → Source
  from N = source_of P T R b N S L

  abbrev lead : ℕ → Result Lead Failure
  lead = chase_in P T R (take (b.schemas * 16) S) b.schemas below

  abbrev entries : List ℕ → ℕ → ℕ → ℕ → List ℕ
  entries M at n p = entry_words lead (take b.links M) at n X p

  abbrev goal : List ℕ → Out
  goal N = laid_at (from N) (state_of u N S L) s (values_at (from N) below s 2 3 X sp) (values_at (from N) below s 4 5 X mid) additional names

  words : (N : List ℕ) (at n p : ℕ) → weld (span (take b.links L) at 2 n) (weave_at (chase_at (from N) below) (span (take b.links L) (at + 1) 2 n) X p) ≡ entries L at n p
  unfolding chase_at
  words N at n p = weld_entries lead (take b.links L) at n X p

  properties_are : (N : List ℕ) → weld (span (from N).links (field (from N) s 2) 2 (field (from N) s 3)) (values_at (from N) below s 2 3 X sp) ≡ entries L first count sp
  properties_are N = rw (← e2, ← e3) (words N first count sp)

  patterns_are : (N : List ℕ) → weld (span (from N).links (field (from N) s 4) 2 (field (from N) s 5)) (values_at (from N) below s 4 5 X mid) ≡ entries L on patterns mid
  patterns_are N = rw (← e4, ← e5) (words N on patterns mid)

  lay_ran : (N L' : List ℕ) (v : Used) → take u.links L' ≡ take u.links L → length L' ≡ length L → u.notes ≡ v.notes → u.schemas ≡ v.schemas → u.links ≤ v.links → Ran (from N) (source_of P T R b N S L') u v X X sp
  lay_ran N L' v k l x y z =
      record {
        source = source_same P T R b u N N S S L L' rd.notes rd.schemas rd.links refl refl k refl refl l;
        stack = refl;
        long = refl;
        notes = omega (arith, x);
        schemas = omega (arith, y);
        links = z;
        most = omega (arith, y, rd.most);
      }

  abbrev full : Told
  full = record { no = 33; rec = 0; fresh = false; used = u }

  pub lay_no_properties : (L₁ : List ℕ) → Listed L L₁ u.links (count * 2) (entries L first count sp) false → Laid P T R b u below s S S L L₁ X sp mid additional names full
  unfolding laid_at
  lay_no_properties L₁ h =
      record {
        built =
            λ N. refused-built (goal N) 33 (from N) (source_of P T R b N S L₁) u u N S L₁ X X sp (λ z. omega arith)
            (rw (properties_are N, links_full (from N) u N S L (count * 2) (entries L first count sp) (entry_length lead (take b.links L) first count X sp) refl (sym h.yes)))
            (lay_ran N L₁ u h.kept h.long refl refl (omega arith));
      }

  module _ (L₁ : List ℕ) (h : Listed L L₁ u.links (count * 2) (entries L first count sp) true) where
    abbrev used₁ : Used
    used₁ = record { notes = u.notes; schemas = u.schemas; links = u.links + count * 2 }

    properties_done : (N : List ℕ) → add_links (from N) (state_of u N S L) (entries L first count sp) ≡ done (state_of used₁ N S L₁) u.links
    properties_done N = links-done (from N) u N S L L₁ (count * 2) (entries L first count sp) (entry_length lead (take b.links L) first count X sp) refl (sym h.yes) (h.grown refl)

    -- the second list is read where the source has not changed
    same_links : take b.links L₁ ≡ take b.links L
    same_links = part_same b.links u.links L₁ L rd.links h.kept

    second_is : entries L₁ on patterns mid ≡ entries L on patterns mid
    second_is = ap (λ (l : List ℕ). entry_words lead l on patterns X mid) same_links

    second_length : length (entries L on patterns mid) ≡ patterns * 2
    second_length = entry_length lead (take b.links L) on patterns X mid

    module _ (L₂ : List ℕ) (y : Bool) (g : Listed L₁ L₂ (u.links + count * 2) (patterns * 2) (entries L₁ on patterns mid) y) where
      kept₂ : take u.links L₂ ≡ take u.links L
      kept₂ = part_same u.links (u.links + count * 2) L₂ L₁ (omega arith) g.kept ∙ h.kept

      long₂ : length L₂ ≡ length L
      long₂ = g.long ∙ h.long

      pub lay_no_patterns : y ≡ false → Laid P T R b u below s S S L L₂ X sp mid additional names full
      unfolding laid_at
      lay_no_patterns f =
          record {
            built =
                λ N. refused-built (goal N) 33 (from N) (source_of P T R b N S L₂) u u N S L₂ X X sp (λ z. omega arith)
                (rw (properties_are N, properties_done N, patterns_are N, links_full (from N) used₁ N S L₁ (patterns * 2) (entries L on patterns mid) second_length (sym h.long) (sym g.yes ∙ f)))
                (lay_ran N L₂ u kept₂ long₂ refl refl (omega arith));
          }

      abbrev used₂ : Used
      used₂ = record { notes = u.notes; schemas = u.schemas; links = u.links + count * 2 + patterns * 2 }

      pub lay_done : y ≡ true → (S' : List ℕ) (note required wanted least most closed naming : ℕ) → note ≡ schema_word (take (b.schemas * 16) S) s 1 → required ≡ schema_word (take (b.schemas * 16) S) s 7 → wanted ≡ schema_word (take (b.schemas * 16) S) s 8 → least ≡ schema_word (take (b.schemas * 16) S) s 9 → most ≡ schema_word (take (b.schemas * 16) S) s 10 → closed ≡ schema_word (take (b.schemas * 16) S) s 11 → naming ≡ schema_word (take (b.schemas * 16) S) s 13 → (rec : List ℕ) → rec ≡ object_row note u.links count (u.links + count * 2) patterns additional required wanted least most closed names naming → (r : Told) → Finished S S' used₂ rec r → Laid P T R b u below s S S' L L₂ X sp mid additional names r
      unfolding laid_at
      lay_done f S' note required wanted least most closed naming e1 e7 e8 e9 e10 e11 e13 rec x r fin =
          record {
            built =
                λ N. finish_built P T R b u used₂ N S S' L₂ rec r fin (goal N) (from N) X X sp rd
                (lay_ran N L₂ used₂ kept₂ long₂ refl refl (omega arith))
                (rw (properties_are N, properties_done N, patterns_are N, links-done (from N) used₁ N S L₁ L₂ (patterns * 2) (entries L on patterns mid) second_length (sym h.long) (sym g.yes ∙ f) (g.grown f ∙ ap (λ (l : List ℕ). take (u.links + count * 2) L₁ ++ l) second_is), x, e1, e3, e5, e7, e8, e9, e10, e11, e13));
          }
