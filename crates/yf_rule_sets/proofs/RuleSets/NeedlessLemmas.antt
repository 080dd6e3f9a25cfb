-- Laws of keys with a `?` that the house style writes without.
use Rattle.std.proofs.Common.{◌≡◌, ℕ, ◌<◌, ◌≤◌, Bool, true, false, ◌&&◌, List, [], ◌∷◌, Option, Some, None, length, get_or, refl, sym, ap, subst, ◌∙◌, ⊎_elim, arith, true≢false}
use Rattle.std.specs.List.{Contains}
use Rattle.std.specs.Prelude.{◌==◌, if◌then◌else◌, slice_get}
use Rattle.std.proofs.lemmas.Bool.{and_parts, cases_Bool, cases_lt, eqb-true, or_cases, or_left, or_right}
use Rattle.std.proofs.lemmas.Bool.Decides.{nat_tests}
use Rattle.std.proofs.lemmas.List.{length-map}
use Rattle.std.proofs.lemmas.Option.{same_Some, slice_get_within}
use Rattle.yf_forms.specs.NormalForms.Forms.{no_form, stream_forms}
use Rattle.yf_forms.specs.Nodes.ImplicitKeys.{begins_implicit, is_implicit_atom}
use Rattle.yf_forms.specs.Nodes.SingleNodes.{block_keys}
use Rattle.yf_forms.specs.NormalForms.Normal.{setting_of}
use Rattle.yf_forms.specs.NormalForms.Textual.{IsTextual}
use Rattle.yf_forms.specs.declared.form.decide.Form.{Form}
use Rattle.yf_forms.specs.declared.style.Style.{Style}
use Rattle.yf_forms.proofs.Decide.FlagLemmas.{implicit_there}
use Rattle.yf_events.specs.Event.{EventInText}
use Rattle.yf_events.specs.WellPlaced.{begins_node}
use Rattle.yf_events.specs.Reading.{entries_of}
use Rattle.yf_events.specs.Tree.{DocumentTree}
use Rattle.yf_events.specs.declared.event.Entry.{Entry}
use Rattle.yf_events.specs.declared.lists.Lists.{Lists}
use Rattle.yf_lines.specs.Lines.{Table}
use Rattle.yf_rule_sets.specs.RuleSets.Exact.{IsTheOne, Sole}
use Rattle.yf_rule_sets.specs.RuleSets.Layouts.{NeedlessMark}
use Rattle.yf_rule_sets.specs.Passes.BlockKeys.{AnswersAtom, MarkedAtom, in_flow, is_key, next_role, role_at, roles}
use Rattle.yf_rule_sets.specs.Passes.MarkedKeys.{TellsKeys}
use Rattle.yf_rule_sets.specs.Passes.OuterFlow.{FlowsDone}
use Rattle.yf_rule_sets.specs.RuleSets.QuestionMarks.{HasQuestionMark, IsMarked, marked}
use Rattle.yf_rule_sets.specs.declared.facts.block_keys.Role.{Role}
use Rattle.yf_rule_sets.specs.declared.facts.block_keys.Role.TheVariants.{InFlow, Item, Key, Value}
use Rattle.yf_rule_sets.proofs.Texts.FlowLemmas.{is_inside, is_outside}
use Rattle.yf_rule_sets.proofs.RuleSets.AtomLemmas.{Tells, not_enclosed, role_tells}
use Rattle.yf_rule_sets.proofs.RuleSets.BlockKeyLemmas.{key_outside}
use Rattle.yf_rule_sets.proofs.Texts.ExactLemmas.{same_answer}
use Rattle.yf_rule_sets.proofs.RuleSets.KeySetLemmas.{head_or_later, is_head, is_later}
use Rattle.yf_chars.proofs.Tests.{some_none}

-- a list of keys, and the test if one begins at an index

its_number : (i : ℕ) → ((i == i) && true) ≡ true
its_number i = grind (arith, nat_tests)

listed : (ks : List (ℕ × Bool)) (i : ℕ) → begins_implicit ks i ≡ true → Contains ks (i, true)
listed [] i e = absurd (true≢false (sym e))
listed ((j, b) ∷ ks) i e = ⊎_elim
    (λ (h : ((j == i) && b) ≡ true).
    let p = and_parts (j == i) b h in
    subst (λ w. Contains ((j, b) ∷ ks) (w, true)) (eqb-true j i p.0) (subst (λ w. Contains ((j, b) ∷ ks) (j, w)) p.1 (is_head (j, b) ks)))
    (λ (h : begins_implicit ks i ≡ true). is_later (j, b) ks (i, true) (listed ks i h))
    (or_cases ((j == i) && b) (begins_implicit ks i) e)

tested : (ks : List (ℕ × Bool)) (i : ℕ) → Contains ks (i, true) → begins_implicit ks i ≡ true
tested [] i c = absurd (omega (arith, c.1))
tested (k ∷ ks) i c = ⊎_elim
    (λ (e : k ≡ (i, true)). or_left ((k.0 == i) && k.1) (begins_implicit ks i) (ap (λ w. (w.0 == i) && w.1) e ∙ its_number i))
    (λ (h : Contains ks (i, true)). or_right ((k.0 == i) && k.1) (begins_implicit ks i) (tested ks i h))
    (head_or_later k ks (i, true) c)

-- the event 0 begins no key
no_first_key : (t : List ℕ) (r : Lists) (s : Style) (trees : List DocumentTree) → begins_implicit (block_keys t r s trees) 0 ≡ false
no_first_key t r s trees = sym (implicit_there t r s trees 0)

pub tells_keys : (t : List ℕ) (r : Lists) (s : Style) (trees : List DocumentTree) (forms : List Form) → forms ≡ stream_forms t (setting_of r s) (setting_of r s) trees → TellsKeys t r s trees forms
tells_keys t r s trees forms e = record { tells = λ i. ap (λ fs. (get_or fs i no_form).is_implicit) e ∙ implicit_there t r s trees i }

-- entries with a `?`

pub marked_within : {t : List ℕ} {r : Lists} {i o : ℕ} → IsMarked t r i o → i < length r.events
marked_within {r = r} {i = i} (marked {entry = entry} at mark) =
    let w = slice_get_within (entries_of r) i (Some entry) at in omega (arith, w, length-map r.events (λ e. e.entry))

module _ (t : List ℕ) (r : Lists) (i : ℕ) where
  pub marked_here : (entry : Entry) → slice_get (entries_of r) i ≡ Some (Some entry) → HasQuestionMark t entry.start → Sole (IsMarked t r i) entry.start
  marked_here entry e m = record { holds = marked e m; only = λ o q. only q } where
    only : {o : ℕ} → IsMarked t r i o → o ≡ entry.start
    only (marked f n) = ap (λ (w : Entry). w.start) (same_Some _ _ (same_Some _ _ (sym f ∙ e)))

  pub not_marked : (entry : Entry) → slice_get (entries_of r) i ≡ Some (Some entry) → (HasQuestionMark t entry.start → ⊥) → (o : ℕ) → IsMarked t r i o → ⊥
  not_marked entry e n o (marked f m) = n (subst (λ (w : Entry). HasQuestionMark t w.start) (same_Some _ _ (same_Some _ _ (sym f ∙ e))) m)

  pub no_entry : slice_get (entries_of r) i ≡ Some None → (o : ℕ) → IsMarked t r i o → ⊥
  no_entry e o (marked f m) = some_none (same_Some _ _ (sym f ∙ e))

-- the result for one event

module _ (src : Table) (r : Lists) (house : Style) (trees : List DocumentTree) (i done : ℕ) (d : FlowsDone r.events i done) where
  pub not_outside : i ≤ done → (o : ℕ) → NeedlessMark src r house trees i o → ⊥
  not_outside l o n = ⊎_elim (λ (z : 0 < i). is_inside d z l n.outside)
      (λ (z : i ≤ 0).
      let e = tested (block_keys src.text r house trees) i n.key in
      true≢false (sym e ∙ ap (begins_implicit (block_keys src.text r house trees)) (let q : i ≡ 0 = omega (arith, z) in q) ∙ no_first_key src.text r house trees))
      (cases_lt 0 i)

  module _ (forms : List Form) (k : TellsKeys src.text r house trees forms) where
    pub not_implicit : (get_or forms i no_form).is_implicit ≡ false → (o : ℕ) → NeedlessMark src r house trees i o → ⊥
    not_implicit f o n = true≢false (sym (tested (block_keys src.text r house trees) i n.key) ∙ sym (k.tells i) ∙ f)

    pub if_marked : (answer : Option ℕ) → done < i → (get_or forms i no_form).is_implicit ≡ true → IsTheOne (IsMarked src.text r i) answer
        → IsTheOne (NeedlessMark src r house trees i) answer
    if_marked None l f a = λ o n. a o n.marked
    if_marked (Some o) l f a = record {
      holds = record { key = listed (block_keys src.text r house trees) i (sym (k.tells i) ∙ f); outside = is_outside d l; marked = a.holds };
      only = λ p n. a.only p n.marked;
    }

-- keys that are atoms

key_in_block : (n : Role) → is_key n ≡ true → in_flow n ≡ false
key_in_block InFlow e = absurd cc
key_in_block Item e = refl
key_in_block Key e = refl
key_in_block Value e = refl

module _ (src : Table) (r : Lists) (house : Style) (w : IsTextual r) (i : ℕ) (e : EventInText) (g : slice_get r.events i ≡ Some e) (st : List Role) (role : Role)
    (q : slice_get (roles [] r.events) i ≡ Some (next_role st)) (f : role ≡ role_at e.event st) where
  abbrev n : Role
  n = next_role st

  here : in_flow n ≡ false → Tells house (begins_implicit (block_keys src.text r house w.trees) i) n e.event
  here z = subst (λ b. Tells house b n e.event) (implicit_there src.text r house w.trees i) ((role_tells src.text r house w.trees i n e w.of_reading q g).1 z)

  node_role : begins_node e.event ≡ true → role ≡ n
  node_role b = f ∙ ap (λ b. if b then next_role st else Item) b

  begins : is_key role ≡ true → begins_node e.event ≡ true
  begins k = ⊎_elim (λ (b : begins_node e.event ≡ true). b)
      (λ (b : begins_node e.event ≡ false). absurd (true≢false (sym k ∙ ap is_key (f ∙ ap (λ b. if b then next_role st else Item) b))))
      (cases_Bool (begins_node e.event))

  outside : (o : ℕ) → NeedlessMark src r house w.trees i o → in_flow n ≡ false
  outside o p = ⊎_elim (λ (h : in_flow n ≡ true). absurd (not_enclosed p.outside ((role_tells src.text r house w.trees i n e w.of_reading q g).0 h)))
      (λ (h : in_flow n ≡ false). h) (cases_Bool (in_flow n))

  module _ (answer : Option ℕ) (a : AnswersAtom src.text r house i role e.event answer) where
    to_atom : (o : ℕ) → NeedlessMark src r house w.trees i o → MarkedAtom src.text r house i role e.event o
    to_atom o p =
        let t = here (outside o p) in
        let b : begins_implicit (block_keys src.text r house w.trees) i ≡ true = tested (block_keys src.text r house w.trees) i p.key in
        let k : is_key role ≡ true = ap is_key (node_role (t.node b)) ∙ t.key b in
        record { key = k; implicit = (and_parts (is_key n) (is_implicit_atom house e.event) (sym (t.atom (a.atom k o p.marked)) ∙ b)).1; marked = p.marked }

    of_atom : (o : ℕ) → MarkedAtom src.text r house i role e.event o → NeedlessMark src r house w.trees i o
    of_atom o p =
        let k : is_key n ≡ true = ap is_key (sym (node_role (begins p.key))) ∙ p.key in
        let b : begins_implicit (block_keys src.text r house w.trees) i ≡ true =
        (here (key_in_block n k)).atom (a.atom p.key o p.marked) ∙ ap (λ b. b && is_implicit_atom house e.event) k ∙ p.implicit in
        record { key = listed (block_keys src.text r house w.trees) i b; outside = key_outside r.events i n q k; marked = p.marked }

    pub atom_answer : IsTheOne (NeedlessMark src r house w.trees i) answer
    atom_answer = same_answer of_atom to_atom answer a.exact
