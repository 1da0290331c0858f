-- One simulation theorem: what a visit finds in one reading of the schemas it finds in another, as far as is kept of an error, unless it met
-- the depth limit. More levels, opened joins and records that stand for one tree are instances. Assumes nothing.
use Prim.Native.Nat.{ℕ, zero, suc, ◌+◌, ◌≤◌}
use mathlib.Core.Path.{◌≡◌, refl, ap, ◌∙◌}
use mathlib.Core.Bool.{Bool, true, false}
use mathlib.Core.List.{List, [], ◌∷◌, ◌++◌}
use mathlib.Core.Option.{Option, some, none}
use native.Mathlib.Omega.{arith}
use Rattle.text.specs.Choice.{pick}
use Rattle.error.specs.declared.Detail.{Detail}
use Rattle.error.specs.declared.Reason.{Reason}
use Rattle.error.specs.Answers.{reason_number}
use Rattle.error.specs.declared.Detail.TheVariants.{Property, Key, Reference}
use Rattle.error.specs.Paths.{Step, key_step, item_step}
use Rattle.judge.specs.Judge.{Verdict, fine}
use Rattle.schema.specs.Shape.{Note, Pair, Own, Object, Shape, plain, any_of, all_of, array, object, ref}
use Rattle.std.specs.Prelude.{Err}
use Rattle.judge.specs.declared.Wrong.TheVariants.{Value, BadPattern, Unanswered}
use Rattle.grouping.specs.Regrouped.{Each, stop, also, Maybe, neither, both, Pairs, end_pairs, pair}
use Rattle.validator.specs.Outcome.{Error, Outcome, accepted, refused, invalid, ended, made, kinded, placed, under, place, and_then, first_of, any_end, any_step, verdict}
use Rattle.validator.specs.Visit.{Entry, find_pair, Nodes, all_over, any_over, items_over, number_or, required_over, extra_at, property_at, entry_at, entries_over, object_at, array_at, ref_at, visit_body, visit_at}

-- what of an error is kept, in one reading and in the other; a `silent` detail says the same in both
pub record Erasure (K : Type 0) (silent : Detail → Type 0) : Type 0 where
  pub er : Error → K
  pub er' : Error → K
  pub kind : (k : ℕ) (x y : Error) → er x ≡ er' y → er (kinded k x) ≡ er' (kinded k y)
  pub place : (s : Step) (x y : Error) → er x ≡ er' y → er (placed s x) ≡ er' (placed s y)
  pub key : (t : ℕ) → silent (Key t)
  pub reference : (t : ℕ) → silent (Reference t)

-- what a record's own words say of a node, with such a detail
pub data Says (silent : Detail → Type 0) : Verdict → Type 0 where
  says_fine : Says silent fine
  says_wrong : {why : Reason} {node : ℕ} {d : Detail} → silent d → Says silent (Err (Value why node d))
  says_bad : Says silent (Err BadPattern)
  says_unanswered : Says silent (Err Unanswered)

pub record Quiet (silent : Detail → Type 0) (D : Nodes) : Type 0 where
  pub judge : (w : Own) (n : ℕ) → Says silent (D.judge w n)
  pub counted : (least most n : ℕ) → Says silent (D.counted least most n)
  pub object_first : (n : ℕ) → Says silent (D.object_first n)

-- the first met the depth limit, or both say the same
pub data Below {K : Type 0} {silent : Detail → Type 0} (E : Erasure K silent) : Outcome → Outcome → Type 0 where
  deep : {o : Outcome} → Below E (ended 23) o
  accepts : Below E accepted accepted
  refuses : {x y : Error} → E.er x ≡ E.er' y → Below E (refused x) (refused y)
  invalids : {p : List Step} → Below E (invalid p) (invalid p)
  ends : {n : ℕ} → Below E (ended n) (ended n)

pub data BestBelow {K : Type 0} {silent : Detail → Type 0} (E : Erasure K silent) : Option Error → Option Error → Type 0 where
  no_best : BestBelow E none none
  bests : {x y : Error} → E.er x ≡ E.er' y → BestBelow E (some x) (some y)

module _ {K : Type 0} {silent : Detail → Type 0} (E : Erasure K silent) where
  pub below_under : (k : ℕ) {a b : Outcome} → Below E a b → Below E (under k a) (under k b)
  below_under k deep = deep
  below_under k accepts = accepts
  below_under k (refuses {x = x} {y = y} e) = refuses (E.kind k x y e)
  below_under k invalids = invalids
  below_under k ends = ends

  pub below_unwrap : ((x : Error) → E.er (kinded 8 x) ≡ E.er x) → {a b : Outcome} → Below E a b → Below E (under 8 a) b
  below_unwrap free deep = deep
  below_unwrap free accepts = accepts
  below_unwrap free (refuses {x = x} e) = refuses (free x ∙ e)
  below_unwrap free invalids = invalids
  below_unwrap free ends = ends

  pub below_place : (s : Step) {a b : Outcome} → Below E a b → Below E (place s a) (place s b)
  below_place s deep = deep
  below_place s accepts = accepts
  below_place s (refuses {x = x} {y = y} e) = refuses (E.place s x y e)
  below_place s invalids = invalids
  below_place s ends = ends

  pub below_then : {a b c d : Outcome} → Below E a b → Below E c d → Below E (and_then a c) (and_then b d)
  below_then deep r = deep
  below_then accepts r = r
  below_then (refuses e) r = refuses e
  below_then invalids r = invalids
  below_then ends r = ends

  below_best : {b c : Option Error} {x y : Error} → BestBelow E b c → E.er x ≡ E.er' y → BestBelow E (first_of b x) (first_of c y)
  below_best no_best e = bests e
  below_best (bests f) e = bests f

  below_end : {b c : Option Error} → BestBelow E b c → Below E (any_end b) (any_end c)
  below_end no_best = ends
  below_end (bests e) = refuses e

  below_any_step : {a b : Outcome} {p q : Option Error} {f g : Option Error → Outcome} → Below E a b → BestBelow E p q →
      ((p q : Option Error) → BestBelow E p q → Below E (f p) (g q)) → Below E (any_step a p f) (any_step b q g)
  below_any_step deep m r = deep
  below_any_step accepts m r = accepts
  below_any_step (refuses e) m r = r _ _ (below_best m e)
  below_any_step invalids m r = r _ _ m
  below_any_step ends m r = ends

-- additional: part by part, and an allOf may be opened where an allOf step does not count
pub data Opens {K : Type 0} {silent : Detail → Type 0} (E : Erasure K silent) {S U : Type 0} (R : S → U → Type 0) (look : S → Shape S) : List S → List U → Type 0 where
  shut : Opens E R look [] []
  keep : {s : S} {u : U} {ss : List S} {us : List U} → R s u → Opens E R look ss us → Opens E R look (s ∷ ss) (u ∷ us)
  unwrap : {s : S} {note : Option Note} {xs ss : List S} {us vs : List U} → ((x : Error) → E.er (kinded 8 x) ≡ E.er x) → look s ≡ all_of note xs →
      Opens E R look xs us → Opens E R look ss vs → Opens E R look (s ∷ ss) (us ++ vs)

pub data Extra {K : Type 0} {silent : Detail → Type 0} (E : Erasure K silent) {S U : Type 0} (R : S → U → Type 0) (look : S → Shape S) : Option (List S) → Option (List U) → Type 0 where
  no_extra : Extra E R look none none
  extra : {xs : List S} {ys : List U} → Opens E R look xs ys → Extra E R look (some xs) (some ys)

pub record ObjectAlike {K : Type 0} {silent : Detail → Type 0} (E : Erasure K silent) {S U : Type 0} (R : S → U → Type 0) (look : S → Shape S) (o : Object S) (p : Object U) : Type 0 where
  pub note : o.note ≡ p.note
  pub props : Pairs R o.props p.props
  pub additional : Extra E R look o.additional p.additional
  pub required : o.required ≡ p.required
  pub least : o.least ≡ p.least
  pub most : o.most ≡ p.most
  pub closed : o.closed ≡ p.closed

pub data Alike {K : Type 0} {silent : Detail → Type 0} (E : Erasure K silent) {S U : Type 0} (R : S → U → Type 0) (look : S → Shape S) : Shape S → Shape U → Type 0 where
  plains : {w : Own} → Alike E R look (plain w) (plain w)
  anys : {a b : Option Note} {xs : List S} {ys : List U} → Each R xs ys → Alike E R look (any_of a xs) (any_of b ys)
  alls : {a b : Option Note} {xs : List S} {ys : List U} → Each R xs ys → Alike E R look (all_of a xs) (all_of b ys)
  arrays : {w : Own} {x : Option S} {y : Option U} → Maybe R x y → Alike E R look (array w x) (array w y)
  objects : {o : Object S} {p : Object U} → ObjectAlike E R look o p → Alike E R look (object o) (object p)
  refs : {note : Option Note} {t : ℕ} {b : Bool} → Alike E R look (ref note t b) (ref note t b)

pub record Simulates {K : Type 0} {silent : Detail → Type 0} (E : Erasure K silent) {S U : Type 0} (R : S → U → Type 0) (who : S → ℕ) (who' : U → ℕ) (look : S → Shape S) (look' : U → Shape U)
    (find : ℕ → Option S) (find' : ℕ → Option U) : Type 0 where
  pub tells : {s : S} {u : U} → R s u → (k n : ℕ) (note : Option Note) (d : Detail) → silent d →
      E.er (made k n (who s) note d) ≡ E.er' (made k n (who' u) note d)
  pub lacks : (D : Nodes) {s : S} {u : U} {a : Option S} {b : Option U} → R s u → Maybe R a b → (n t : ℕ) (note : Option Note) →
      E.er (made 2 n (who s) note (Property t (number_or D who a))) ≡ E.er' (made 2 n (who' u) note (Property t (number_or D who' b)))
  pub step : {s : S} {u : U} → R s u → Alike E R look (look s) (look' u)
  pub found : (t : ℕ) → Maybe R (find t) (find' t)

found_pair : {S U : Type 0} {R : S → U → Type 0} (eq : ℕ → ℕ → Bool) (k : ℕ) {ps : List (Pair S)} {qs : List (Pair U)} → Pairs R ps qs → Maybe R (find_pair eq k ps) (find_pair eq k qs)
unfolding find_pair
found_pair eq k end_pairs = neither
found_pair {R} eq k (pair {s = s} {u = u} {ss = ss} {us = us} e r rest) = rw e (go (eq u.key k) (found_pair eq k rest))
  where
    go : (b : Bool) → Maybe R (find_pair eq k ss) (find_pair eq k us) → Maybe R (pick b (some s.value) (find_pair eq k ss)) (pick b (some u.value) (find_pair eq k us))
    go true m = both r
    go false m = m

module _ {K : Type 0} {silent : Detail → Type 0} (D : Nodes) (quiet : Quiet silent D) (E : Erasure K silent) {S U : Type 0} (R : S → U → Type 0) (who : S → ℕ) (who' : U → ℕ) (look : S → Shape S) (look' : U → Shape U)
    (find : ℕ → Option S) (find' : ℕ → Option U) (Z : Simulates E R who who' look look' find find') where
  -- the visits with k and with m levels agree on what is related
  abbrev Agree : (ℕ → S → Outcome) → (ℕ → U → Outcome) → Type 0
  Agree go go' = (n : ℕ) (s : S) (u : U) → R s u → Below E (go n s) (go' n u)

  verdicts : {s : S} {u : U} → R s u → {v : Verdict} → Says silent v → (a b : Option Note) → a ≡ b → Below E (verdict v (who s) a) (verdict v (who' u) b)
  verdicts r says_fine a b e = accepts
  verdicts r (says_wrong {why = why} {node = n} {d = d} q) a b e = rw e (refuses (Z.tells r (reason_number why) n b d q))
  verdicts r says_bad a b e = invalids
  verdicts r says_unanswered a b e = ends

  over_all : (f : S → Outcome) (g : U → Outcome) → ((s : S) (u : U) → R s u → Below E (f s) (g u)) → {xs : List S} {ys : List U} → Each R xs ys → Below E (all_over f xs) (all_over g ys)
  unfolding all_over
  over_all f g h stop = accepts
  over_all f g h (also r rs) = below_then E (h _ _ r) (over_all f g h rs)

  over_any : (f : S → Outcome) (g : U → Outcome) → ((s : S) (u : U) → R s u → Below E (f s) (g u)) → {p q : Option Error} {xs : List S} {ys : List U} → Each R xs ys → BestBelow E p q →
      Below E (any_over f p xs) (any_over g q ys)
  unfolding any_over
  over_any f g h stop m = below_end E m
  over_any f g h {p = p'} {q = q'} (also {s = s} {u = u} {ss = ss} {us = us} r rs) m = below_any_step E (h _ _ r) m (λ p q n. over_any f g h {p = p} {q = q} {xs = ss} {ys = us} rs n)

  over_items : (f g : ℕ → Outcome) → ((n : ℕ) → Below E (f n) (g n)) → (i : ℕ) (ns : List ℕ) → Below E (items_over f i ns) (items_over g i ns)
  unfolding items_over
  over_items f g h i [] = accepts
  over_items f g h i (n ∷ ns) = below_then E (below_place E (item_step i) (h n)) (over_items f g h (i + 1) ns)

  over_required : {s : S} {u : U} → R s u → (o : Object S) (p : Object U) → ObjectAlike E R look o p → (n : ℕ) (ts : List ℕ) →
      Below E (required_over D who s o n ts) (required_over D who' u p n ts)
  unfolding required_over
  over_required r o p a n [] = accepts
  over_required {s} {u} r o p a n (t ∷ ts) = go (D.has n t) (over_required r o p a n ts)
    where
      go : (b : Bool) → Below E (required_over D who s o n ts) (required_over D who' u p n ts) →
          Below E (pick b (required_over D who s o n ts) (refused (made 2 n (who s) o.note (Property t (number_or D who (find_pair D.same t o.props))))))
          (pick b (required_over D who' u p n ts) (refused (made 2 n (who' u) p.note (Property t (number_or D who' (find_pair D.same t p.props))))))
      go true rest = rest
      go false rest = rw a.note (refuses (Z.lacks D r (found_pair D.same t a.props) n t p.note))

  all_append : (f : U → Outcome) (xs ys : List U) → all_over f (xs ++ ys) ≡ and_then (all_over f xs) (all_over f ys)
  unfolding all_over
  all_append f [] ys = refl
  all_append f (x ∷ xs) ys = rw (all_append f xs ys) (then_assoc (f x) (all_over f xs) (all_over f ys))
    where
      then_assoc : (a b c : Outcome) → and_then a (and_then b c) ≡ and_then (and_then a b) c
      then_assoc accepted b c = refl
      then_assoc (refused e) b c = refl
      then_assoc (invalid p) b c = refl
      then_assoc (ended n) b c = refl

  abbrev here : ℕ → ℕ → S → Outcome
  here = visit_at D who look find

  abbrev there : ℕ → ℕ → U → Outcome
  there = visit_at D who' look' find'

  here_all : (j n : ℕ) (s : S) (note : Option Note) (xs : List S) → look s ≡ all_of note xs → here (suc j) n s ≡ under 8 (all_over (here j n) xs)
  unfolding visit_at visit_body
  here_all j n s note xs e = ap (visit_body D who find (here j) n s) e

  module _ (m : ℕ) (H : (j : ℕ) → j ≤ m → Agree (here j) (there m)) where
    opened_below : (j : ℕ) → j ≤ m → (n : ℕ) {xs : List S} {ys : List U} → Opens E R look xs ys → Below E (all_over (here j n) xs) (all_over (there m n) ys)
    unfolding all_over visit_at
    opened_below j le n shut = accepts
    opened_below j le n (keep r rs) = below_then E (H j le n _ _ r) (opened_below j le n rs)
    opened_below zero le n (unwrap free e inner rest) = deep
    opened_below (suc j) le n (unwrap {s = s} {note = note} {xs = xs} {us = us} {vs = vs} free e inner rest) =
        rw (here_all j n s note xs e, all_append (there m n) us vs)
        (below_then E (below_unwrap E free (opened_below j (omega arith) n inner)) (opened_below (suc j) le n rest))

    extras : (j : ℕ) → j ≤ m → {s : S} {u : U} → R s u → (o : Object S) (p : Object U) → o.note ≡ p.note → (n t v : ℕ) {x : Option (List S)} {y : Option (List U)} →
        Extra E R look x y → (b : Bool) → Below E (extra_at D who (here j) s o n t v x b) (extra_at D who' (there m) u p n t v y b)
    extras j le r o p e n t v x true = rw e (refuses (Z.tells r 3 n p.note (Key t) (E.key t)))
    extras j le r o p e n t v no_extra false = accepts
    extras j le r o p e n t v (extra q) false = below_place E (key_step t) (opened_below j le v q)

    extras_eq : (j : ℕ) → j ≤ m → {s : S} {u : U} → R s u → (o : Object S) (p : Object U) → o.note ≡ p.note → (n t v : ℕ) {x : Option (List S)} {y : Option (List U)} →
        Extra E R look x y → (b c : Bool) → b ≡ c → Below E (extra_at D who (here j) s o n t v x b) (extra_at D who' (there m) u p n t v y c)
    extras_eq j le r o p e n t v x b c q = rw q (extras j le r o p e n t v x c)

    properties : (j : ℕ) → j ≤ m → {s : S} {u : U} → R s u → (o : Object S) (p : Object U) → ObjectAlike E R look o p → (n t v : ℕ) {x : Option S} {y : Option U} →
        Maybe R x y → Below E (property_at D who (here j) s o n t v x) (property_at D who' (there m) u p n t v y)
    properties j le r o p a n t v neither = extras_eq j le r o p a.note n t v a.additional o.closed p.closed a.closed
    properties j le r o p a n t v (both q) = below_place E (key_step t) (H j le v _ _ q)

    an_entry : (j : ℕ) → j ≤ m → {s : S} {u : U} → R s u → (o : Object S) (p : Object U) → ObjectAlike E R look o p → (n v : ℕ) (key : Option ℕ) →
        Below E (entry_at D who (here j) s o n v key) (entry_at D who' (there m) u p n v key)
    an_entry j le r o p a n v none = accepts
    an_entry j le r o p a n v (some t) = properties j le r o p a n t v (found_pair D.same t a.props)

    over_entries : (j : ℕ) → j ≤ m → {s : S} {u : U} → R s u → (o : Object S) (p : Object U) → ObjectAlike E R look o p → (n : ℕ) (es : List Entry) →
        Below E (entries_over D who (here j) s o n es) (entries_over D who' (there m) u p n es)
    unfolding entries_over
    over_entries j le r o p a n [] = accepts
    over_entries j le r o p a n (e ∷ es) = below_then E (an_entry j le r o p a n e.value e.key) (over_entries j le r o p a n es)

    required_eq : {s : S} {u : U} → R s u → (o : Object S) (p : Object U) → ObjectAlike E R look o p → (n : ℕ) (ts us : List ℕ) → ts ≡ us →
        Below E (required_over D who s o n ts) (required_over D who' u p n us)
    required_eq r o p a n ts us q = rw q (over_required r o p a n us)

    counted_eq : {s : S} {u : U} → R s u → (n a b c d : ℕ) (e f : Option Note) → a ≡ b → c ≡ d → e ≡ f →
        Below E (verdict (D.counted a c n) (who s) e) (verdict (D.counted b d n) (who' u) f)
    counted_eq r n a b c d e f p q w = rw (p, q) (verdicts r (quiet.counted b d n) e f w)

    an_object : (j : ℕ) → j ≤ m → {s : S} {u : U} → R s u → (o : Object S) (p : Object U) → ObjectAlike E R look o p → (n : ℕ) →
        Below E (object_at D who (here j) s o n) (object_at D who' (there m) u p n)
    unfolding object_at
    an_object j le r o p a n =
        below_then E (verdicts r (quiet.object_first n) o.note p.note a.note)
        (below_then E (required_eq r o p a n o.required p.required a.required)
        (below_then E (counted_eq r n o.least p.least o.most p.most o.note p.note a.least a.most a.note)
        (over_entries j le r o p a n (D.entries n))))

    an_array : (j : ℕ) → j ≤ m → (n : ℕ) {x : Option S} {y : Option U} → Maybe R x y → Below E (array_at D who (here j) x n) (array_at D who' (there m) y n)
    unfolding array_at
    an_array j le n neither = accepts
    an_array j le n (both r) = over_items _ _ (λ v. H j le v _ _ r) 0 (D.items n)

    a_ref : (j : ℕ) → j ≤ m → {s : S} {u : U} → R s u → (note : Option Note) (t n : ℕ) {x : Option S} {y : Option U} → Maybe R x y →
        Below E (ref_at D who (here j) s note t n x) (ref_at D who' (there m) u note t n y)
    a_ref j le r note t n neither = refuses (Z.tells r 12 n note (Reference t) (E.reference t))
    a_ref j le r note t n (both q) = H j le n _ _ q

    bodies : (j : ℕ) → j ≤ m → (n : ℕ) {s : S} {u : U} → R s u → {x : Shape S} {y : Shape U} → Alike E R look x y →
        Below E (visit_body D who find (here j) n s x) (visit_body D who' find' (there m) n u y)
    unfolding visit_body
    bodies j le n r (plains {w = w}) = below_under E w.kind (verdicts r (quiet.judge w n) w.note w.note refl)
    bodies j le n r (anys q) = below_under E 7 (over_any _ _ (λ s u. H j le n s u) q no_best)
    bodies j le n r (alls q) = below_under E 8 (over_all _ _ (λ s u. H j le n s u) q)
    bodies j le n r (arrays {w = w} q) = below_under E 9 (below_then E (verdicts r (quiet.judge w n) w.note w.note refl) (an_array j le n q))
    bodies j le n r (objects {o = o} {p = p} a) = below_under E 10 (an_object j le r o p a n)
    bodies j le n r (refs {note = note} {t = t}) = a_ref j le r note t n (Z.found t)

  pub simulation : (m j : ℕ) → j ≤ m → Agree (here j) (there m)
  unfolding visit_at
  simulation zero zero le n s u r = deep
  simulation zero (suc j) le n s u r = absurd (omega arith)
  simulation (suc m) zero le n s u r = deep
  simulation (suc m) (suc j) le n s u r = bodies m (simulation m) j (omega arith) n r (Z.step r)
