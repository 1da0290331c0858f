-- Merging commutes with reading children, and keeps what holds of every child. Assumes nothing.
use Prim.Native.Nat.{ℕ}
use mathlib.Core.Path.{◌≡◌, refl, sym, ap, ◌∙◌}
use mathlib.Core.Bool.{Bool, true, false, ◌||◌}
use mathlib.Core.List.{List, [], ◌∷◌, ◌++◌, append_assoc}
use mathlib.Core.Option.{Option, some, none}
use Rattle.text.specs.Choice.{pick}
use Rattle.schema.specs.Shape.{Pair, Names, nameless, detects, named, Object}
use Rattle.merge.specs.Merge.{kept, over, note_of, put, put_all, ◌⊕◌, counting, naming, Gathered, start, add, gather, derive, merge}
use Rattle.grouping.specs.Tree.{map_list, flat_list, map_option, map_pair, map_names, map_object, EveryPair, nil_pair, one_pair, PerhapsEvery, absents, presents, NamesIn, in_none, in_detects, in_named, ObjectIn}
use Rattle.grouping.proofs.Shapes.{append_in}
use Rattle.grouping.proofs.Joining.{Filled, no_list, a_list}

module _ {A B : Type 0} (eq : ℕ → ℕ → Bool) (f : A → B) (g h : A → List B) where
  nat_put : (p : Pair A) (l : List (Pair A)) → map_list (map_pair f) (put eq p l) ≡ put eq (map_pair f p) (map_list (map_pair f) l)
  unfolding put map_list
  nat_put p [] = refl
  nat_put p (q ∷ qs) = at (eq q.key p.key) (nat_put p qs)
    where
      at : (b : Bool) → map_list (map_pair f) (put eq p qs) ≡ put eq (map_pair f p) (map_list (map_pair f) qs) →
          map_list (map_pair f) (pick b (p ∷ qs) (q ∷ put eq p qs)) ≡ pick b (map_pair f p ∷ map_list (map_pair f) qs) (map_pair f q ∷ put eq (map_pair f p) (map_list (map_pair f) qs))
      at true ih = refl
      at false ih = ap (λ (x : List (Pair B)). map_pair f q ∷ x) ih

  nat_put_all : (l xs : List (Pair A)) → map_list (map_pair f) (put_all eq l xs) ≡ put_all eq (map_list (map_pair f) l) (map_list (map_pair f) xs)
  unfolding put_all map_list
  nat_put_all l [] = refl
  nat_put_all l (x ∷ xs) = nat_put_all (put eq x l) xs ∙ ap (λ (y : List (Pair B)). put_all eq y (map_list (map_pair f) xs)) (nat_put x l)

flat_append : {A B : Type 0} (g : A → List B) (xs ys : List A) → flat_list g (xs ++ ys) ≡ flat_list g xs ++ flat_list g ys
unfolding flat_list
flat_append g [] ys = refl
flat_append g (x ∷ xs) ys = rw (flat_append g xs ys) (sym (append_assoc (g x) (flat_list g xs) (flat_list g ys)))

nat_join : {A B : Type 0} (g : A → List B) (x y : Option (List A)) → map_option (flat_list g) (x ⊕ y) ≡ map_option (flat_list g) x ⊕ map_option (flat_list g) y
nat_join g x none = refl
nat_join g none (some ys) = refl
nat_join g (some xs) (some ys) = ap some (flat_append g xs ys)

nat_counting : {A B : Type 0} (f : A → B) (h : A → List B) (x : Names A) → map_option (flat_list h) (counting x) ≡ counting (map_names f h x)
nat_counting f h nameless = refl
nat_counting f h (detects x) = refl
nat_counting f h (named xs) = refl

nat_naming : {A B : Type 0} (f : A → B) (h : A → List B) (x : Option (List A)) → map_names f h (naming x) ≡ naming (map_option (flat_list h) x)
nat_naming f h none = refl
nat_naming f h (some xs) = refl

module _ {A B : Type 0} (eq : ℕ → ℕ → Bool) (f : A → B) (g h : A → List B) where
  map_gathered : Gathered A → Gathered B
  map_gathered x = record {
    note = x.note;
    props = map_list (map_pair f) x.props;
    patterns = map_list (map_pair f) x.patterns;
    additional = map_option (flat_list g) x.additional;
    required = x.required;
    closed = x.closed;
    names = map_option (flat_list h) x.names;
  }

  nat_add : (x : Gathered A) (o : Object A) → map_gathered (add eq x o) ≡ add eq (map_gathered x) (map_object f g h o)
  unfolding map_gathered
  nat_add x o = λ i. record {
    note = over x.note (kept o.note);
    props = nat_put_all eq f g h x.props o.props i;
    patterns = nat_put_all eq f g h x.patterns o.patterns i;
    additional = nat_join g x.additional o.additional i;
    required = x.required ++ o.required;
    closed = x.closed || o.closed;
    names = (nat_join h x.names (counting o.names) ∙ ap (λ (y : Option (List B)). map_option (flat_list h) x.names ⊕ y) (nat_counting f h o.names)) i;
  }

  nat_gather : (x : Gathered A) (os : List (Object A)) → map_gathered (gather eq x os) ≡ gather eq (map_gathered x) (map_list (map_object f g h) os)
  unfolding gather map_list
  nat_gather x [] = refl
  nat_gather x (o ∷ os) = nat_gather (add eq x o) os ∙ ap (λ (y : Gathered B). gather eq y (map_list (map_object f g h) os)) (nat_add x o)

  nat_derive : (x : Gathered A) (d : Object A) → map_object f g h (derive eq x d) ≡ derive eq (map_gathered x) (map_object f g h d)
  unfolding map_gathered
  nat_derive x d = λ i. record {
    note = some (note_of x.note d.note);
    props = nat_put_all eq f g h x.props d.props i;
    patterns = nat_put_all eq f g h x.patterns d.patterns i;
    additional = nat_join g x.additional d.additional i;
    required = x.required ++ d.required;
    least = d.least;
    most = d.most;
    closed = x.closed || d.closed;
    names = nat_naming f h x.names i;
    naming = d.naming;
  }

  nat_start : map_gathered start ≡ start
  unfolding map_gathered map_list
  nat_start = refl

  -- to read what was merged is to merge what was read
  pub nat_merge : (os : List (Object A)) (d : Object A) → map_object f g h (merge eq os d) ≡ merge eq (map_list (map_object f g h) os) (map_object f g h d)
  nat_merge os d =
      nat_derive (gather eq start os) d ∙ ap (λ (y : Gathered B). derive eq y (map_object f g h d))
      (nat_gather start os ∙ ap (λ (y : Gathered B). gather eq y (map_list (map_object f g h) os)) nat_start)

-- what holds of every child
pub record GatheredIn (P Q : ℕ → Type 0) (x : Gathered ℕ) : Type 0 where
  pub props : EveryPair P x.props
  pub patterns : EveryPair P x.patterns
  pub additional : PerhapsEvery P x.additional
  pub names : PerhapsEvery P x.names
  pub filled : Filled x.additional
  pub named_filled : Filled x.names
  pub names_too : PerhapsEvery Q x.names

-- an object as a table has it: its children meet P, its names that count meet Q
pub record Tidy (P Q : ℕ → Type 0) (o : Object ℕ) : Type 0 where
  pub inside : ObjectIn P o
  pub filled : Filled o.additional
  pub named_filled : Filled (counting o.names)
  pub names_too : PerhapsEvery Q (counting o.names)

pub data AllTidy (P Q : ℕ → Type 0) : List (Object ℕ) → Type 0 where
  none_tidy : AllTidy P Q []
  one_tidy : {o : Object ℕ} {os : List (Object ℕ)} → Tidy P Q o → AllTidy P Q os → AllTidy P Q (o ∷ os)

module _ {P : ℕ → Type 0} (eq : ℕ → ℕ → Bool) where
  put_in : (p : Pair ℕ) (l : List (Pair ℕ)) → P p.value → EveryPair P l → EveryPair P (put eq p l)
  unfolding put
  put_in p [] a nil_pair = one_pair a nil_pair
  put_in p (q ∷ qs) a (one_pair b bs) = at (eq q.key p.key) (put_in p qs a bs)
    where
      at : (c : Bool) → EveryPair P (put eq p qs) → EveryPair P (pick c (p ∷ qs) (q ∷ put eq p qs))
      at true r = one_pair a bs
      at false r = one_pair b r

  pub put_all_in : (l xs : List (Pair ℕ)) → EveryPair P l → EveryPair P xs → EveryPair P (put_all eq l xs)
  unfolding put_all
  put_all_in l [] a nil_pair = a
  put_all_in l (x ∷ xs) a (one_pair b bs) = put_all_in (put eq x l) xs (put_in x l b a) bs

pub join_in : {P : ℕ → Type 0} {x y : Option (List ℕ)} → PerhapsEvery P x → PerhapsEvery P y → PerhapsEvery P (x ⊕ y)
join_in absents absents = absents
join_in (presents a) absents = presents a
join_in absents (presents b) = presents b
join_in (presents a) (presents b) = presents (append_in a b)

pub join_filled : {x y : Option (List ℕ)} → Filled x → Filled y → Filled (x ⊕ y)
join_filled no_list no_list = no_list
join_filled a_list no_list = a_list
join_filled no_list a_list = a_list
join_filled a_list a_list = a_list

pub counting_in : {P : ℕ → Type 0} {x : Names ℕ} → NamesIn P x → PerhapsEvery P (counting x)
counting_in in_none = absents
counting_in (in_detects p) = absents
counting_in (in_named q) = presents q

module _ {P Q : ℕ → Type 0} (eq : ℕ → ℕ → Bool) where
  add_in : (x : Gathered ℕ) (o : Object ℕ) → GatheredIn P Q x → Tidy P Q o → GatheredIn P Q (add eq x o)
  add_in x o a b = record {
    props = put_all_in eq x.props o.props a.props b.inside.props;
    patterns = put_all_in eq x.patterns o.patterns a.patterns b.inside.patterns;
    additional = join_in a.additional b.inside.additional;
    names = join_in a.names (counting_in b.inside.names);
    filled = join_filled a.filled b.filled;
    named_filled = join_filled a.named_filled b.named_filled;
    names_too = join_in a.names_too b.names_too;
  }

  pub gather_in : (x : Gathered ℕ) (os : List (Object ℕ)) → GatheredIn P Q x → AllTidy P Q os → GatheredIn P Q (gather eq x os)
  unfolding gather
  gather_in x [] a none_tidy = a
  gather_in x (o ∷ os) a (one_tidy b bs) = gather_in (add eq x o) os (add_in x o a b) bs

  pub start_in : GatheredIn P Q start
  start_in = record { props = nil_pair; patterns = nil_pair; additional = absents; names = absents; filled = no_list; named_filled = no_list; names_too = absents }
