-- Laws of the pass that finds the contexts of nodes.
use Rattle.std.proofs.Common.{◌≡◌, ℕ, suc, ◌+◌, ◌-◌, ◌<◌, Bool, true, false, List, [], ◌∷◌, ◌++◌, Option, Some, None, drop, get_or, length, map, reverse, set, take, unwrap_or, refl, sym, ap, subst, ◌∙◌, arith}
use Rattle.std.specs.Prelude.{◌&&◌, if◌then◌else◌, slice_get}
use Rattle.std.proofs.lemmas.List.{drop_all, length-take-le, reverse-append, take-append-drop}
use Rattle.std.proofs.lemmas.Option.{same_Some}
use Rattle.std.proofs.Math.Seq.{drop-cons, set-append_seam}
use Rattle.yf_events.specs.Event.{EventValue, EventInText}
use Rattle.yf_rule_sets.specs.Passes.Entries.{all_entries, column_at, entries_from, if_any, starts_block, unmarked_at}
use Rattle.yf_rule_sets.specs.Passes.ContextPass.{IsPass, Passes, stand_of}
use Rattle.yf_rule_sets.specs.Passes.NodeContexts.{after, beside, held, is_beside, next, opened, outer, past, stand_in, turned}
use Rattle.yf_rule_sets.specs.declared.facts.node_context.ContextFrame.{ContextFrame}
use Rattle.yf_rule_sets.specs.declared.facts.node_context.Pass.{Pass}
use Rattle.yf_rule_sets.specs.declared.facts.node_context.NodeContext.{NodeContext}
use Rattle.yf_rule_sets.proofs.Indentation.EntryLemmas.{all_from, in_none}

-- a mapping before a key
pub key_passed : (l : ContextFrame) (m b : Bool) → l.is_map ≡ true → l.key ≡ None → b ≡ m
    → ◌≡◌ {A = ContextFrame} (record { column = l.column; is_map = l.is_map; key = Some b }) (past m l)
key_passed l m b e f g = ap (λ (k : Option Bool). record { column = l.column; is_map = l.is_map; key = k })
    (sym (ap (λ x. if x then turned m l.key else l.key) e ∙ ap (turned m) f ∙ ap Some (sym g)))

-- the innermost open collection

last_of : (xs : List ContextFrame) (l : ContextFrame) → 0 < length xs → l ≡ get_or xs (length xs - 1) l → xs ≡ take (length xs - 1) xs ++ l ∷ []
last_of xs l h e =
    let k = length xs - 1 in
    let d : drop k xs ≡ l ∷ [] = drop-cons xs k l (omega (arith, h)) ∙ ap (λ x. x ∷ drop (suc k) xs) (sym e)
    ∙ ap (λ w. l ∷ w) (drop_all (suc k) xs (omega (arith, h))) in
    sym (take-append-drop k xs) ∙ ap (λ w. take k xs ++ w) d

module _ (xs : List ContextFrame) (n : ℕ) (l : ContextFrame) (c : length xs ≡ n) (h : 0 < n) (e : l ≡ get_or xs (n - 1) l) where
  first : reverse xs ≡ l ∷ reverse (take (n - 1) xs)
  first = subst (λ n. l ≡ get_or xs (n - 1) l → reverse xs ≡ l ∷ reverse (take (n - 1) xs)) c
      (λ q. ap reverse (last_of xs l (omega (arith, c, h)) q) ∙ reverse-append (take (length xs - 1) xs) (l ∷ [])) e

  pub one_passed : (m : Bool) (new : ContextFrame) → new ≡ past m l → reverse (set xs (n - 1) new) ≡ after m (reverse xs)
  one_passed m new f =
      let p = take (n - 1) xs in
      let w : xs ≡ p ++ l ∷ [] = subst (λ n. l ≡ get_or xs (n - 1) l → xs ≡ take (n - 1) xs ++ l ∷ []) c (λ q. last_of xs l (omega (arith, c, h)) q) e in
      let k : length p ≡ n - 1 = length-take-le (n - 1) xs (omega (arith, c)) in
      let s : set xs (n - 1) new ≡ p ++ new ∷ [] =
      ap (λ ys. set ys (n - 1) new) w ∙ ap (λ j. set (p ++ l ∷ []) j new) (sym k) ∙ set-append_seam p l [] new in
      ap reverse s ∙ reverse-append p (new ∷ []) ∙ ap (λ x. x ∷ reverse p) f ∙ sym (ap (after m) first)

  pub outer_is : held l.column ≡ outer (reverse xs)
  outer_is = sym (ap outer first)

  pub beside_is : (l.is_map && is_beside l.key) ≡ beside (reverse xs)
  beside_is = sym (ap beside first)

-- one more event

module _ (t : List ℕ) (es : List EventInText) (columns : List ℕ) (begun i : ℕ) (l : i < length es) (p : IsPass t es columns begun i) where
  pub none_begun : entries_from t (drop i es) ≡ None → IsPass t es columns begun (i + 1)
  none_begun e = record {
    columns_are = p.columns_are;
    begun_are = ap (λ n. begun + n) (sym (ap length (all_from t es i None l (sym e)))) ∙ p.begun_are;
  }

  pub one_begun : (o next : ℕ) → entries_from t (drop i es) ≡ Some o → next ≡ begun + 1 → IsPass t es columns next (i + 1)
  one_begun o next e q = record {
    columns_are = p.columns_are;
    begun_are = let a = ap length (all_from t es i (Some o) l (sym e)) in let b = p.begun_are in omega (arith, a, b, q);
  }

  pub begun_within : (o : ℕ) → entries_from t (drop i es) ≡ Some o → begun < length columns
  begun_within o e = let a = ap length (all_from t es i (Some o) l (sym e)) in let b = p.begun_are in let c = p.columns_are.count in omega (arith, a, b, c)

  pub column_begun : (o : ℕ) → entries_from t (drop i es) ≡ Some o → Some (get_or columns begun 0) ≡ column_at t es columns i
  column_begun o e =
      let n : begun ≡ length (all_entries t es) - length (all_entries t (drop i es)) = let b = p.begun_are in omega (arith, b) in
      ap (λ k. Some (get_or columns k 0)) n ∙ ap (λ w. if_any w (get_or columns (length (all_entries t es) - length (all_entries t (drop i es))) 0)) (sym e)

  pub no_column : entries_from t (drop i es) ≡ None → None ≡ column_at t es columns i
  no_column e = sym (ap (λ w. if_any w (get_or columns (length (all_entries t es) - length (all_entries t (drop i es))) 0)) e)

-- an event that begins no block collection
module _ (t : List ℕ) (es : List EventInText) (i : ℕ) (l : i < length es) (old new : Pass) (stand : NodeContext) where
  pub passed_by : (v e : EventValue) → slice_get (map (λ (e : EventInText). e.event) es) i ≡ Some v → slice_get (map (λ (e : EventInText). e.event) es) i ≡ Some e → starts_block v ≡ false
      → reverse new.stack.items ≡ next v (column_at t es old.columns.items i) (unmarked_at t es i) (reverse old.stack.items)
      → stand ≡ stand_of v (reverse old.stack.items) (column_at t es old.columns.items i) (unwrap_or (entries_from t (drop i es)) 0)
      → new.columns.items ≡ old.columns.items → new.begun ≡ old.begun → Passes t es i e old new stand
  passed_by v e q f b st sd k n = subst (λ e. Passes t es i e old new stand) (same_Some _ _ (sym q ∙ f)) (λ p. record {
    stack = st;
    tells = sd;
    kept = k;
    later = subst (λ cs. IsPass t es cs new.begun (i + 1)) (sym k) (subst (λ m. IsPass t es old.columns.items m (i + 1)) (sym n)
        (none_begun t es old.columns.items old.begun i l p (in_none t es i v (starts_block v) q refl b)));
  })

-- without the innermost open collection
pub rest_reversed : (xs : List ContextFrame) → reverse (take (length xs - 1) xs) ≡ drop 1 (reverse xs)
rest_reversed [] = refl
rest_reversed (x ∷ ys) =
    let xs = x ∷ ys in
    let k = length xs - 1 in
    let d : drop k xs ≡ get_or xs k x ∷ [] = drop-cons xs k x (omega arith) ∙ ap (λ w. get_or xs k x ∷ w) (drop_all (suc k) xs (omega arith)) in
    let e : xs ≡ take k xs ++ get_or xs k x ∷ [] = sym (take-append-drop k xs) ∙ ap (λ w. take k xs ++ w) d in
    sym (ap (λ w. drop 1 (reverse w)) e ∙ ap (drop 1) (reverse-append (take k xs) (get_or xs k x ∷ [])))

-- the start of a collection
abbrev with_entries : Option ℕ → ℕ → NodeContext → NodeContext
with_entries c f x = record { outer = x.outer; is_implicit_value = x.is_implicit_value; column = c; first = f }

pub stand_begun : (s : NodeContext) (st : List ContextFrame) (c d : Option ℕ) (f g : ℕ) → s ≡ stand_in st None 0 → c ≡ d → f ≡ g
    → ◌≡◌ {A = NodeContext} (record { outer = s.outer; is_implicit_value = s.is_implicit_value; column = c; first = f }) (stand_in st d g)
stand_begun s st c d f g e h k = ap (with_entries c f) e
    ∙ ap (λ c. stand_in st c f) h ∙ ap (λ f. stand_in st d f) k

pub stack_begun : (mid new st : List ContextFrame) (a : ContextFrame) (is_map : Bool) (c : Option ℕ) → new ≡ mid ++ a ∷ [] → a ≡ opened is_map c → reverse mid ≡ st → reverse new ≡ opened is_map c ∷ st
stack_begun mid new st a is_map c q e f = ap reverse q ∙ reverse-append mid (a ∷ []) ∙ ap (λ x. x ∷ reverse mid) e ∙ ap (λ w. opened is_map c ∷ w) f
