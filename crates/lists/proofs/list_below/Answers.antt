use Prim.Native.Nat.{ℕ, ◌+◌, ◌-◌, ◌≤◌}
use lib.Dec.{ltb}
use lib.ListN.{length, take, drop}
use mathlib.Core.Path.{◌≡◌, ◌∙◌}
use mathlib.Core.Bool.{Bool}
use mathlib.Core.List.{List}
use mathlib.Core.Logic.{⊎_elim}
use Rattle.std.proofs.Common.{rules, tests, arith}
use Rattle.std.proofs.lemmas.List.{take_all, length-drop}
use Rattle.std.specs.List.{slice_range}
use Rattle.std.proofs.lemmas.Iterator.{YieldsList-from_slice}
use Rattle.std.proofs.lemmas.Iterator.Search.{all_from_yields_List}
use Rattle.lists.specs.Lists.{link_below}
use Rattle.lists.proofs.Walked.{every_part}
use Rattle.lists.proofs.Below.{list_out, list_in}
use Rattle.lists.proofs.list_below.Goals as goal

-- the part of the links from first on
part : (links rest list : List ℕ) (first count : ℕ) → first ≤ length links → rest ≡ slice_range links first (length links) → count ≤ length rest → list ≡ slice_range rest 0 count → list ≡ take count (drop first links)
part links rest list first count f r h l =
    let whole : rest ≡ drop first links = r ∙ take_all (length links - first) (drop first links) (omega (arith, length-drop first links)) in
    let all : count - 0 ≡ count = omega arith in
    rw (l, whole, all)

pub returns : goal.returns
unfolding link_below
returns c =
    let f : ℕ → Bool = λ w. ltb w c.args.limit in
    let all = all_from_yields_List f _ _ c.all.result c.all.ensures.ran (YieldsList-from_slice c.in-Some-get.list.now cc) (λ x b q k. search (rules, tests)) in
    let rest = c.in-Some.ensures.lookup.0 in
    let list = c.in-Some-get.ensures.lookup.0 in
    let inside : c.args.first + c.args.count ≤ length c.args.t.now.links.now = omega arith in
    let cut = part c.args.t.now.links.now c.in-Some.rest.now c.in-Some-get.list.now c.args.first c.args.count (omega arith) rest.2 (omega arith) list.2 in
    all ∙ rw cut (every_part f c.args.t.now.links.now c.args.count c.args.first inside) ∙ list_in _ _ _ _ inside

pub returns-in_default : goal.returns-in_default
returns-in_default c = ⊎_elim (λ h. list_out _ _ _ _ (omega arith)) (λ h. absurd (omega arith)) c.in_default.ensures.lookup.0

pub returns-in_default-get : goal.returns-in_default-get
returns-in_default-get c =
    let rest = c.in-Some.ensures.lookup.0 in
    ⊎_elim (λ h. absurd (omega arith)) (λ h. list_out _ _ _ _ (omega arith)) c.in_default-get.ensures.lookup.0
