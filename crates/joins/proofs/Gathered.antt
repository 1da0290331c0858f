-- What the lists laid in the links have to do with `gather`: part by part, over records b whose objects are `o b`. Assumes nothing.
use Prim.Native.Nat.{ℕ}
use mathlib.Core.Path.{◌≡◌, refl, sym, ap, ◌∙◌}
use mathlib.Core.Bool.{Bool, true, false}
use mathlib.Core.List.{List, [], ◌∷◌, ◌++◌, append_assoc, append-nil}
use mathlib.Core.Option.{Option, some, none}
use lib.Dec.{eqb}
use Rattle.text.specs.Choice.{pick}
use Rattle.layout.specs.Layout.{NONE}
use Rattle.schema.specs.Shape.{Pair, Object}
use Rattle.merge.specs.Merge.{put_all, ◌⊕◌, counting, Gathered, add, gather}
use Rattle.merge.specs.Pairs.{merge_all}
use Rattle.joins.specs.Joins.{keep_one, joined}

-- a list, or none where it is empty
abbrev pub listed : {A : Type 0} → List A → Option (List A)
listed [] = none
listed (x ∷ xs) = some (x ∷ xs)

pub listed_join : {A : Type 0} (xs ys : List A) → listed xs ⊕ listed ys ≡ listed (xs ++ ys)
listed_join xs [] = ap listed (sym (append-nil xs))
listed_join [] (y ∷ ys) = refl
listed_join (x ∷ xs) (y ∷ ys) = refl

pub keep_listed : (w : ℕ) → pick (eqb w NONE) none (some (w ∷ [])) ≡ listed (keep_one w)
unfolding keep_one
keep_listed w = choose (eqb w NONE)
  where
    choose : (t : Bool) → pick t none (some (w ∷ [])) ≡ listed (pick t [] (w ∷ []))
    choose true = refl
    choose false = refl

unfoldable pub objects : (ℕ → Object ℕ) → List ℕ → List (Object ℕ)
objects o [] = []
objects o (b ∷ bs) = o b ∷ objects o bs

module _ (eq : ℕ → ℕ → Bool) (o : ℕ → Object ℕ) where
  -- properties, then pattern properties
  pub gather_props : (list : ℕ → List (Pair ℕ)) → ((b : ℕ) → (o b).props ≡ list b) → (g : Gathered ℕ) (bs : List ℕ) → (gather eq g (objects o bs)).props ≡ merge_all eq list g.props bs
  unfolding gather objects merge_all
  gather_props list h g [] = refl
  gather_props list h g (b ∷ bs) = gather_props list h (add eq g (o b)) bs ∙ ap (λ (l : List (Pair ℕ)). merge_all eq list (put_all eq g.props l) bs) (h b)

  pub gather_patterns : (list : ℕ → List (Pair ℕ)) → ((b : ℕ) → (o b).patterns ≡ list b) → (g : Gathered ℕ) (bs : List ℕ) → (gather eq g (objects o bs)).patterns ≡ merge_all eq list g.patterns bs
  unfolding gather objects merge_all
  gather_patterns list h g [] = refl
  gather_patterns list h g (b ∷ bs) = gather_patterns list h (add eq g (o b)) bs ∙ ap (λ (l : List (Pair ℕ)). merge_all eq list (put_all eq g.patterns l) bs) (h b)

  pub gather_required : (f : ℕ → List ℕ) → ((b : ℕ) → (o b).required ≡ f b) → (g : Gathered ℕ) (bs : List ℕ) → (gather eq g (objects o bs)).required ≡ g.required ++ joined f bs
  unfolding gather objects joined
  gather_required f h g [] = sym (append-nil g.required)
  gather_required f h g (b ∷ bs) =
      gather_required f h (add eq g (o b)) bs ∙ ap (λ (l : List ℕ). g.required ++ l ++ joined f bs) (h b) ∙ append_assoc g.required (f b) (joined f bs)

  pub gather_additional : (f : ℕ → List ℕ) → ((b : ℕ) → (o b).additional ≡ listed (f b)) → (xs : List ℕ) (g : Gathered ℕ) → g.additional ≡ listed xs → (bs : List ℕ) → (gather eq g (objects o bs)).additional ≡ listed (xs ++ joined f bs)
  unfolding gather objects joined
  gather_additional f h xs g e [] = e ∙ ap listed (sym (append-nil xs))
  gather_additional f h xs g e (b ∷ bs) =
      let q : g.additional ⊕ (o b).additional ≡ listed (xs ++ f b) = rw (e, h b) (listed_join xs (f b)) in
      gather_additional f h (xs ++ f b) (add eq g (o b)) q bs ∙ ap listed (append_assoc xs (f b) (joined f bs))

  pub gather-names : (f : ℕ → List ℕ) → ((b : ℕ) → counting (o b).names ≡ listed (f b)) → (xs : List ℕ) (g : Gathered ℕ) → g.names ≡ listed xs → (bs : List ℕ) → (gather eq g (objects o bs)).names ≡ listed (xs ++ joined f bs)
  unfolding gather objects joined
  gather-names f h xs g e [] = e ∙ ap listed (sym (append-nil xs))
  gather-names f h xs g e (b ∷ bs) =
      let q : g.names ⊕ counting (o b).names ≡ listed (xs ++ f b) = rw (e, h b) (listed_join xs (f b)) in
      gather-names f h (xs ++ f b) (add eq g (o b)) q bs ∙ ap listed (append_assoc xs (f b) (joined f bs))
