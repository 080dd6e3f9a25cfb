-- Laws of the pass that finds repeated keys.
use Rattle.std.proofs.Common.{◌≡◌, ℕ, ◌+◌, ◌<◌, ◌≤◌, Bool, true, false, List, [], ◌∷◌, ◌++◌, Some, None, length, drop, get_or, reverse, set, take, add-one, suc, ◌-◌, refl, sym, subst, ap, ◌∙◌, append_assoc, ⊎_elim, arith}
use Rattle.std.specs.Prelude.{slice_get, option_map, ◌&&◌, Option}
use Rattle.std.proofs.lemmas.List.{append-nil, drop_all, length-take-le, reverse-append, take-append-drop}
use Rattle.std.proofs.lemmas.Option.{slice_get_cases, slice_get_within, slice_get-map, get_or_from_slice_get}
use Rattle.std.proofs.Math.Seq.{drop-cons, set-append_seam}
use Rattle.yf_chars.proofs.Tests.{same_head, no_cons, same_tail}
use Rattle.yf_events.specs.Event.{EventInText}
use Rattle.yf_events.specs.Reading.{events_of}
use Rattle.yf_events.specs.Tree.{DocumentTree, TreesOf}
use Rattle.yf_events.specs.declared.lists.Lists.{Lists}
use Rattle.yf_rule_sets.specs.RuleSets.Exact.{Exactly}
use Rattle.yf_rule_sets.specs.Passes.KeyPass.{AreCollections, IsCollection, IsLast, KeyValue, OpenCollection, after, event_place, has_key, is_repeat, new_collection, next, offset_if, past_key, repeats_in, run, takes_key, without_first}
use Rattle.yf_rule_sets.specs.Passes.KeyPass.AreCollections.{no_collections, one_collection}
use Rattle.yf_rule_sets.specs.RuleSets.Nodes.{RepeatedKey}
use Rattle.yf_rule_sets.specs.declared.rules.repeated_keys.ScalarKey.{ScalarKey}
use Rattle.yf_rule_sets.specs.declared.rules.repeated_keys.KeyedCollection.{KeyedCollection}
use Rattle.yf_rule_sets.proofs.RuleSets.KeySetLemmas.{exactly_repeated}
use Rattle.yf_rule_sets.proofs.RuleSets.KeyTreeLemmas.{run_stream}

-- the innermost collection
record First (ks : List ScalarKey) (a : KeyedCollection) (more : List KeyedCollection) (st : List OpenCollection) : Type 0 where
  l : OpenCollection
  ls : List OpenCollection
  outer : List ScalarKey
  is : st ≡ l ∷ ls
  collection : IsLast outer ks a l
  collections : AreCollections outer more ls

first_collection : {ks : List ScalarKey} {xs : List KeyedCollection} {st : List OpenCollection} (a : KeyedCollection) (more : List KeyedCollection) → xs ≡ a ∷ more → AreCollections ks xs st → First ks a more st
first_collection a more e no_collections = absurd (no_cons e)
first_collection {ks} a more e (one_collection {outer = outer} {l = l} {ls = ls} p q) = record {
  l = l;
  ls = ls;
  outer = outer;
  is = refl;
  collection = subst (λ x. IsLast outer ks x l) (same_head e) p;
  collections = subst (λ xs. AreCollections outer xs ls) (same_tail e) q;
}

reverse_push : (xs : List KeyedCollection) (x : KeyedCollection) → reverse (xs ++ x ∷ []) ≡ x ∷ reverse xs
reverse_push xs x = reverse-append xs (x ∷ [])

module _ (old rest new : List KeyedCollection) (a b : KeyedCollection) (p : old ≡ rest ++ a ∷ []) (q : new ≡ rest ++ b ∷ []) where
  pub last_passed : (ks ms : List ScalarKey) (w : Option KeyValue) → ((outer : List ScalarKey) (l : OpenCollection) → IsLast outer ks a l → IsLast outer ms b (past_key w l)) → (st : List OpenCollection)
      → AreCollections ks (reverse old) st → AreCollections ms (reverse new) (after w st)
  last_passed ks ms w g st h =
      let f = first_collection a (reverse rest) (ap reverse p ∙ reverse_push rest a) h in
      subst (λ s. AreCollections ms (reverse new) (after w s)) (sym f.is)
      (subst (λ xs. AreCollections ms xs (past_key w f.l ∷ f.ls)) (sym (ap reverse q ∙ reverse_push rest b)) (one_collection (g f.outer f.l f.collection) f.collections))

  pub node_passed : b.first ≡ a.first → ((own : List ScalarKey) (l : OpenCollection) → IsCollection own a l → IsCollection own b (past_key None l)) → (ks : List ScalarKey) (st : List OpenCollection)
      → AreCollections ks (reverse old) st → AreCollections ks (reverse new) (after None st)
  node_passed e g ks st h = last_passed ks ks None
      (λ outer l i. record { own = i.own; keys = i.keys; begins = i.begins ∙ sym e; collection_is = g i.own l i.collection_is }) st h

  pub scalar_passed : (ks ms : List ScalarKey) (w : KeyValue) (hit : Bool)
      → ((outer : List ScalarKey) (l : OpenCollection) → IsLast outer ks a l → IsLast outer ms b (past_key (Some w) l) × (hit ≡ (takes_key l && has_key w l.keys)))
      → (st : List OpenCollection) → AreCollections ks (reverse old) st → AreCollections ms (reverse new) (after (Some w) st) × (hit ≡ repeats_in w st)
  scalar_passed ks ms w hit g st h =
      let f = first_collection a (reverse rest) (ap reverse p ∙ reverse_push rest a) h in
      (last_passed ks ms (Some w) (λ outer l i. (g outer l i).0) st h, (g f.outer f.l f.collection).1 ∙ ap (λ s. repeats_in w s) (sym f.is))

-- the innermost collection changed in place
module _ {A : Type 0} (xs : List A) (n : ℕ) (l : A) (c : length xs ≡ n) (h : 0 < n) (e : l ≡ get_or xs (n - 1) l) where
  pub last_is : xs ≡ take (n - 1) xs ++ l ∷ []
  last_is =
      let k = n - 1 in
      let d : drop k xs ≡ l ∷ [] = drop-cons xs k l (omega (arith, h, c)) ∙ ap (λ x. x ∷ drop (suc k) xs) (sym e)
      ∙ ap (λ w. l ∷ w) (drop_all (suc k) xs (omega (arith, h, c))) in
      sym (take-append-drop k xs) ∙ ap (λ w. take k xs ++ w) d

  pub last_set : (new : A) → set xs (n - 1) new ≡ take (n - 1) xs ++ new ∷ []
  last_set new =
      let p = take (n - 1) xs in
      let k : length p ≡ n - 1 = length-take-le (n - 1) xs (omega (arith, c)) in
      ap (λ ys. set ys (n - 1) new) last_is ∙ ap (λ j. set (p ++ l ∷ []) j new) (sym k) ∙ set-append_seam p l [] new

pub take_outer : (outer own : List ScalarKey) → take (length outer) (outer ++ own) ≡ outer
take_outer [] own = refl
take_outer (x ∷ xs) own = ap (λ ys. x ∷ ys) (take_outer xs own)

pub end_passed : (old rest : List KeyedCollection) (a : KeyedCollection) (ks ms : List ScalarKey) → old ≡ rest ++ a ∷ [] → ms ≡ take a.first ks → (st : List OpenCollection)
    → AreCollections ks (reverse old) st → AreCollections ms (reverse rest) (without_first st)
end_passed old rest a ks ms p q st h =
    let f = first_collection a (reverse rest) (ap reverse p ∙ reverse_push rest a) h in
    let i = f.collection in
    let e : ms ≡ f.outer = q ∙ ap (λ n. take n ks) (sym i.begins) ∙ ap (λ ys. take (length f.outer) ys) i.keys ∙ take_outer f.outer i.own in
    subst (λ s. AreCollections ms (reverse rest) (without_first s)) (sym f.is) (subst (λ ys. AreCollections ys (reverse rest) f.ls) (sym e) f.collections)

pub start_passed : (mid new : List KeyedCollection) (a : KeyedCollection) (is_map : Bool) (ks : List ScalarKey) (st : List OpenCollection) → new ≡ mid ++ a ∷ [] → length ks ≡ a.first
    → IsCollection [] a (new_collection is_map) → AreCollections ks (reverse mid) st → AreCollections ks (reverse new) (new_collection is_map ∷ st)
start_passed mid new a is_map ks st q e i h = subst (λ xs. AreCollections ks xs (new_collection is_map ∷ st)) (sym (ap reverse q ∙ reverse_push mid a))
    (one_collection (record { own = []; keys = sym (append-nil ks); begins = e; collection_is = i }) h)

-- one more event
pub event_at : (r : Lists) (i : ℕ) → i < length r.events → (x : EventInText) × (slice_get r.events i ≡ Some x) × (slice_get (events_of r) i ≡ Some x.event)
event_at r i h = ⊎_elim
    (λ (w : (x : EventInText) × (i < length r.events) × (slice_get r.events i ≡ Some x) × (get_or r.events i x ≡ x)).
    (w.0, w.2, slice_get-map (λ e. e.event) r.events i ∙ ap (option_map (λ (e : EventInText). e.event)) w.2))
    (λ (w : (length r.events ≤ i) × (slice_get r.events i ≡ None)). absurd (omega (arith, w.0, h)))
    (slice_get_cases r.events i).1

pub pass_step : (tags : List (Option (List ℕ))) (es : List EventInText) (i : ℕ) (x : EventInText) (st : List OpenCollection) (os new all : List ℕ) (hit : Bool) → slice_get es i ≡ Some x
    → os ++ run tags i st (drop i es) ≡ all → hit ≡ is_repeat x.event (slice_get tags i) st → new ≡ os ++ offset_if hit (event_place x)
    → new ++ run tags (i + 1) (next x.event (slice_get tags i) st) (drop (i + 1) es) ≡ all
pass_step tags es i x st os new all hit e inv h q =
    let d : drop i es ≡ x ∷ drop (i + 1) es =
    subst (λ k. drop i es ≡ get_or es i x ∷ drop k es) (sym (add-one i)) (drop-cons es i x (slice_get_within es i x e)) ∙ ap (λ m. m ∷ drop (i + 1) es) (get_or_from_slice_get es i x x e) in
    let rest = run tags (i + 1) (next x.event (slice_get tags i) st) (drop (i + 1) es) in
    ap (λ w. w ++ rest) q ∙ append_assoc os (offset_if hit (event_place x)) rest ∙ ap (λ b. os ++ (offset_if b (event_place x) ++ rest)) h
    ∙ ap (λ w. os ++ run tags i st w) (sym d) ∙ inv

pub hit_found : (hit : Bool) (p o : ℕ) (os new : List ℕ) → hit ≡ true → o ≡ p → new ≡ os ++ o ∷ [] → new ≡ os ++ offset_if hit p
hit_found true p o os new e f q = q ∙ ap (λ x. os ++ x ∷ []) f
hit_found false p o os new e f q = absurd (false_true e) where
  false_true : false ≡ true → ⊥
  false_true e = cc

pub no_hit_found : (hit : Bool) (p : ℕ) (os new : List ℕ) → hit ≡ false → new ≡ os → new ≡ os ++ offset_if hit p
no_hit_found false p os new e q = q ∙ sym (append-nil os)
no_hit_found true p os new e q = absurd (true_false e) where
  true_false : true ≡ false → ⊥
  true_false e = cc

pub pass_done : (r : Lists) (i : ℕ) (st : List OpenCollection) (os : List ℕ) → length r.events ≤ i → os ++ run r.resolved i st (drop i r.events) ≡ run r.resolved 0 [] r.events
    → (trees : List DocumentTree) → TreesOf r trees → Exactly (RepeatedKey r trees) os
pass_done r i st os h inv trees t = exactly_repeated r trees os
    (sym (append-nil os) ∙ ap (λ es. os ++ run r.resolved i st es) (sym (drop_all i r.events h)) ∙ inv ∙ ap (run r.resolved 0 []) t.events ∙ run_stream trees r.resolved)
