-- Laws of the pass that finds keys of block mappings: its result in trees, and the events outside of flow collections.
use Rattle.std.proofs.Common.{◌≡◌, ℕ, zero, suc, ◌+◌, ◌-◌, ◌<◌, ◌≤◌, Bool, true, false, List, [], ◌∷◌, ◌++◌, Some, drop, length, get_or, flat_map, reverse, set, take, refl, sym, ap, ◌∙◌, append_assoc, ⊎_elim, arith, true≢false}
use Rattle.std.specs.Prelude.{replicate, slice_get}
use Rattle.std.proofs.lemmas.Bool.{cases_lt}
use Rattle.std.proofs.lemmas.List.{get_or-replicate, length-append, length-replicate, reverse-append, replicate-append-replicate}
use Rattle.std.proofs.lemmas.Option.{same_Some, slice_get-get_or}
use Rattle.yf_events.specs.Event.{EventInText, sequence_ends, mapping_ends, document_ends, stream_ends}
use Rattle.yf_events.specs.Tree.{Node, scalar, alias, sequence, mapping, Items, no_items, item, Pairs, no_pairs, pair, DocumentTree, flat, flat_items, flat_pairs, flat_document, flat_stream, unplaced}
use Rattle.yf_forms.specs.Nodes.SingleNodes.{NodeAt}
use Rattle.yf_forms.proofs.ListLemmas.{at_append, drop_here}
use Rattle.yf_rule_sets.specs.Passes.BlockKeys.{after, first_role, following, is_key, next, next_role, roles}
use Rattle.yf_rule_sets.specs.Passes.OuterFlow.{IsOutsideFlow, is_flow}
use Rattle.yf_rule_sets.specs.declared.facts.block_keys.Role.{Role}
use Rattle.yf_rule_sets.specs.declared.facts.block_keys.Role.TheVariants.{InFlow, Item, Key, Value}
use Rattle.yf_rule_sets.proofs.RuleSets.KeyPassLemmas.{last_is, last_set}

-- In trees: the role of the next node at each event of a node with a role.
abbrev mutual
  pub roles_of : Role → Node → List Role
  roles_of n (scalar at props style text lines) = n ∷ []
  roles_of n (alias at name) = n ∷ []
  roles_of n (sequence at flow props items) = n ∷ (roles_of_items (first_role n flow Item) items ++ (first_role n flow Item ∷ []))
  roles_of n (mapping at flow props pairs) = n ∷ (roles_of_pairs (first_role n flow Key) pairs ++ (first_role n flow Key ∷ []))

  pub roles_of_items : Role → Items → List Role
  roles_of_items n no_items = []
  roles_of_items n (item x xs) = roles_of n x ++ roles_of_items n xs

  pub roles_of_pairs : Role → Pairs → List Role
  roles_of_pairs n no_pairs = []
  roles_of_pairs n (pair k v ps) = roles_of n k ++ (roles_of (following n) v ++ roles_of_pairs n ps)

abbrev pub roles_of_document : DocumentTree → List Role
roles_of_document d = Item ∷ (roles_of Item d.root ++ (Item ∷ []))

after_item : (n : Role) (flow : Bool) → following (first_role n flow Item) ≡ first_role n flow Item
after_item n true = refl
after_item InFlow false = refl
after_item Item false = refl
after_item Key false = refl
after_item Value false = refl

after_pair : (n : Role) (flow : Bool) → following (following (first_role n flow Key)) ≡ first_role n flow Key
after_pair n true = refl
after_pair InFlow false = refl
after_pair Item false = refl
after_pair Key false = refl
after_pair Value false = refl

mutual
  run_node : (x : Node) (st : List Role) (rest : List EventInText) → roles st (flat x ++ rest) ≡ roles_of (next_role st) x ++ roles (after st) rest
  run_node (scalar at props style text lines) st rest = refl
  run_node (alias at name) st rest = refl
  run_node (sequence at flow props items) st rest =
      let m = first_role (next_role st) flow Item in
      let end = unplaced sequence_ends in
      ap (λ ns. next_role st ∷ ns) (ap (roles (m ∷ after st)) (append_assoc (flat_items items) (end ∷ []) rest)
      ∙ run_items items m (after_item (next_role st) flow) (after st) (end ∷ rest) ∙ sym (append_assoc (roles_of_items m items) (m ∷ []) (roles (after st) rest)))
  run_node (mapping at flow props pairs) st rest =
      let m = first_role (next_role st) flow Key in
      let end = unplaced mapping_ends in
      ap (λ ns. next_role st ∷ ns) (ap (roles (m ∷ after st)) (append_assoc (flat_pairs pairs) (end ∷ []) rest)
      ∙ run_pairs pairs m (after_pair (next_role st) flow) (after st) (end ∷ rest) ∙ sym (append_assoc (roles_of_pairs m pairs) (m ∷ []) (roles (after st) rest)))

  run_items : (xs : Items) (n : Role) → following n ≡ n → (st : List Role) (rest : List EventInText)
      → roles (n ∷ st) (flat_items xs ++ rest) ≡ roles_of_items n xs ++ roles (n ∷ st) rest
  run_items no_items n e st rest = refl
  run_items (item x xs) n e st rest =
      let more = flat_items xs ++ rest in
      ap (roles (n ∷ st)) (append_assoc (flat x) (flat_items xs) rest) ∙ run_node x (n ∷ st) more ∙ ap (λ m. roles_of n x ++ roles (m ∷ st) more) e
      ∙ ap (λ ns. roles_of n x ++ ns) (run_items xs n e st rest) ∙ sym (append_assoc (roles_of n x) (roles_of_items n xs) (roles (n ∷ st) rest))

  run_pairs : (ps : Pairs) (n : Role) → following (following n) ≡ n → (st : List Role) (rest : List EventInText)
      → roles (n ∷ st) (flat_pairs ps ++ rest) ≡ roles_of_pairs n ps ++ roles (n ∷ st) rest
  run_pairs no_pairs n e st rest = refl
  run_pairs (pair k v ps) n e st rest =
      let more = flat_pairs ps ++ rest in
      let m = following n in
      ap (roles (n ∷ st)) (append_assoc (flat k) (flat v ++ flat_pairs ps) rest ∙ ap (λ es. flat k ++ es) (append_assoc (flat v) (flat_pairs ps) rest))
      ∙ run_node k (n ∷ st) (flat v ++ more)
      ∙ ap (λ ns. roles_of n k ++ ns) (run_node v (m ∷ st) more ∙ ap (λ z. roles_of m v ++ roles (z ∷ st) more) e
      ∙ ap (λ ns. roles_of m v ++ ns) (run_pairs ps n e st rest) ∙ sym (append_assoc (roles_of m v) (roles_of_pairs n ps) (roles (n ∷ st) rest)))
      ∙ sym (append_assoc (roles_of n k) (roles_of m v ++ roles_of_pairs n ps) (roles (n ∷ st) rest))

run_documents : (ds : List DocumentTree) (rest : List EventInText)
    → roles [] (flat_map flat_document ds ++ rest) ≡ flat_map roles_of_document ds ++ roles [] rest
run_documents [] rest = refl
run_documents (d ∷ ds) rest =
    let end = unplaced (document_ends d.closed) in
    let more = flat_map flat_document ds in
    let others = flat_map roles_of_document ds in
    let own = roles_of Item d.root in
    ap (λ ns. Item ∷ ns) (
    ap (roles []) (append_assoc (flat d.root ++ (end ∷ [])) more rest ∙ append_assoc (flat d.root) (end ∷ []) (more ++ rest))
    ∙ run_node d.root [] (end ∷ (more ++ rest)) ∙ ap (λ ns. own ++ (Item ∷ ns)) (run_documents ds rest)
    ∙ sym (append_assoc own (Item ∷ []) (others ++ roles [] rest)) ∙ sym (append_assoc (own ++ (Item ∷ [])) others (roles [] rest))
    )

pub roles_of_stream : (ds : List DocumentTree) → roles [] (flat_stream ds) ≡ Item ∷ (flat_map roles_of_document ds ++ (Item ∷ []))
roles_of_stream ds = ap (λ ns. Item ∷ ns) (run_documents ds (unplaced stream_ends ∷ []))

-- in a flow collection

two_parts : (ns ms : List Role) (xs ys : List EventInText) → ns ≡ replicate (length xs) InFlow → ms ≡ replicate (length ys) InFlow
    → ns ++ ms ≡ replicate (length (xs ++ ys)) InFlow
two_parts ns ms xs ys p q =
    ap (λ w. w ++ ms) p ∙ ap (λ w. replicate (length xs) InFlow ++ w) q ∙ replicate-append-replicate (length xs) (length ys) InFlow
    ∙ ap (λ k. replicate k InFlow) (sym (length-append xs ys))

within_flow : (flow : Bool) (first : Role) → first_role InFlow flow first ≡ InFlow
within_flow true first = refl
within_flow false first = refl

mutual
  node_in_flow : (x : Node) → roles_of InFlow x ≡ replicate (length (flat x)) InFlow
  node_in_flow (scalar at props style text lines) = refl
  node_in_flow (alias at name) = refl
  node_in_flow (sequence at flow props items) = ap (λ ns. InFlow ∷ ns)
      (ap (λ m. roles_of_items m items ++ (m ∷ [])) (within_flow flow Item)
      ∙ two_parts (roles_of_items InFlow items) (InFlow ∷ []) (flat_items items) (unplaced sequence_ends ∷ []) (items_in_flow items) refl)
  node_in_flow (mapping at flow props pairs) = ap (λ ns. InFlow ∷ ns)
      (ap (λ m. roles_of_pairs m pairs ++ (m ∷ [])) (within_flow flow Key)
      ∙ two_parts (roles_of_pairs InFlow pairs) (InFlow ∷ []) (flat_pairs pairs) (unplaced mapping_ends ∷ []) (pairs_in_flow pairs) refl)

  items_in_flow : (xs : Items) → roles_of_items InFlow xs ≡ replicate (length (flat_items xs)) InFlow
  items_in_flow no_items = refl
  items_in_flow (item x xs) = two_parts (roles_of InFlow x) (roles_of_items InFlow xs) (flat x) (flat_items xs) (node_in_flow x) (items_in_flow xs)

  pairs_in_flow : (ps : Pairs) → roles_of_pairs InFlow ps ≡ replicate (length (flat_pairs ps)) InFlow
  pairs_in_flow no_pairs = refl
  pairs_in_flow (pair k v ps) =
      two_parts (roles_of InFlow k) (roles_of InFlow v ++ roles_of_pairs InFlow ps) (flat k) (flat v ++ flat_pairs ps) (node_in_flow k)
      (two_parts (roles_of InFlow v) (roles_of_pairs InFlow ps) (flat v) (flat_pairs ps) (node_in_flow v) (pairs_in_flow ps))

-- the events of a flow collection after the first one
pub all_in_sequence : (items : Items) → roles_of_items InFlow items ++ (InFlow ∷ []) ≡ replicate (length (flat_items items ++ (unplaced sequence_ends ∷ []))) InFlow
all_in_sequence items = two_parts (roles_of_items InFlow items) (InFlow ∷ []) (flat_items items) (unplaced sequence_ends ∷ []) (items_in_flow items) refl

pub all_in_mapping : (pairs : Pairs) → roles_of_pairs InFlow pairs ++ (InFlow ∷ []) ≡ replicate (length (flat_pairs pairs ++ (unplaced mapping_ends ∷ []))) InFlow
all_in_mapping pairs = two_parts (roles_of_pairs InFlow pairs) (InFlow ∷ []) (flat_pairs pairs) (unplaced mapping_ends ∷ []) (pairs_in_flow pairs) refl

got_same : (k m : ℕ) → k < m → slice_get (replicate m InFlow) k ≡ Some InFlow
got_same k m l =
    slice_get-get_or (replicate m InFlow) k InFlow (let n = length-replicate m InFlow in omega (arith, l, n)) ∙ ap Some (get_or-replicate m k InFlow InFlow l)

-- all events of a flow collection but the first
inside_flow : (y : Node) (n : Role) (k : ℕ) → is_flow y ≡ true → suc k < length (flat y) → slice_get (roles_of n y) (suc k) ≡ Some InFlow
inside_flow (scalar at props style text lines) n k f l = absurd cc
inside_flow (alias at name) n k f l = absurd cc
inside_flow (sequence at true props items) n k f l =
    ap (λ ns. slice_get ns k) (all_in_sequence items) ∙ got_same k (length (flat_items items ++ (unplaced sequence_ends ∷ []))) (omega (arith, l))
inside_flow (sequence at false props items) n k f l = absurd cc
inside_flow (mapping at true props pairs) n k f l =
    ap (λ ns. slice_get ns k) (all_in_mapping pairs) ∙ got_same k (length (flat_pairs pairs ++ (unplaced mapping_ends ∷ []))) (omega (arith, l))
inside_flow (mapping at false props pairs) n k f l = absurd cc

-- a key is outside of flow collections

abbrev passed : List Role → List EventInText → List Role
passed st [] = st
passed st (e ∷ es) = passed (next e.event st) es

roles_join : (st : List Role) (es ds : List EventInText) → roles st (es ++ ds) ≡ roles st es ++ roles (passed st es) ds
roles_join st [] ds = refl
roles_join st (e ∷ es) ds = ap (λ ns. next_role st ∷ ns) (roles_join (next e.event st) es ds)

roles_count : (st : List Role) (es : List EventInText) → length (roles st es) ≡ length es
roles_count st [] = refl
roles_count st (e ∷ es) = ap suc (roles_count (next e.event st) es)

got_after : (xs ys : List Role) (j k : ℕ) → j ≡ length xs + k → slice_get (xs ++ ys) j ≡ slice_get ys k
got_after [] ys j k e = ap (slice_get ys) (let q : j ≡ k = omega (arith, e) in q)
got_after (x ∷ xs) ys zero k e = absurd (omega (arith, e))
got_after (x ∷ xs) ys (suc j) k e = got_after xs ys j k (omega (arith, e))

found_in_flow : (es : List EventInText) (j k : ℕ) (y : Node) → NodeAt es j y → is_flow y ≡ true → suc k < length (flat y) → slice_get (roles [] es) (j + suc k) ≡ Some InFlow
found_in_flow es j k y n f l =
    let own = roles [] n.before in
    let st = passed [] n.before in
    let q : j ≡ length own = sym (roles_count [] n.before ∙ n.index) in
    ap (λ ns. slice_get ns (j + suc k)) (ap (roles []) n.is ∙ roles_join [] n.before (flat y ++ n.after) ∙ ap (λ ns. own ++ ns) (run_node y st n.after))
    ∙ got_after own (roles_of (next_role st) y ++ roles (after st) n.after) (j + suc k) (suc k) (omega (arith, q))
    ∙ at_append (roles_of (next_role st) y) (roles (after st) n.after) (suc k) InFlow (inside_flow y (next_role st) k f l)

pub key_outside : (es : List EventInText) (i : ℕ) (n : Role) → slice_get (roles [] es) i ≡ Some n → is_key n ≡ true → IsOutsideFlow es i
key_outside es i n g h = record {
  outside = λ j y m f l. ⊎_elim
      (λ (w : i < j + length (flat y)).
      let k = i - j - 1 in
      let e : i ≡ j + suc k = omega (arith, l) in
      let q : n ≡ InFlow = same_Some _ _ (sym g ∙ ap (slice_get (roles [] es)) e ∙ found_in_flow es j k y m f (omega (arith, w, l))) in
      absurd (true≢false (sym h ∙ ap is_key q)))
      (λ (w : j + length (flat y) ≤ i). w)
      (cases_lt i (j + length (flat y)));
}

-- the open collections in the code

module _ (xs : List Role) (n : ℕ) (l : Role) (c : length xs ≡ n) (h : 0 < n) (e : l ≡ get_or xs (n - 1) l) where
  innermost : reverse xs ≡ l ∷ reverse (take (n - 1) xs)
  innermost = ap reverse (last_is xs n l c h e) ∙ reverse-append (take (n - 1) xs) (l ∷ [])

  pub role_passed : (new : Role) → new ≡ following l → reverse (set xs (n - 1) new) ≡ after (reverse xs)
  role_passed new f =
      ap reverse (last_set xs n l c h e new) ∙ reverse-append (take (n - 1) xs) (new ∷ []) ∙ ap (λ m. m ∷ reverse (take (n - 1) xs)) f ∙ sym (ap after innermost)

-- one more event
pub event_passed : (es : List EventInText) (i : ℕ) (st before : List Role) (e : EventInText) → length before ≡ i → slice_get es i ≡ Some e
    → roles [] es ≡ before ++ roles st (drop i es)
    → (slice_get (roles [] es) i ≡ Some (next_role st)) × (roles [] es ≡ (before ++ next_role st ∷ []) ++ roles (next e.event st) (drop (i + 1) es))
event_passed es i st before e l g q =
    let rest = roles (next e.event st) (drop (i + 1) es) in
    let w : roles [] es ≡ before ++ (next_role st ∷ rest) = q ∙ ap (λ ds. before ++ roles st ds) (drop_here es i e g) in (
      ap (λ ns. slice_get ns i) w ∙ got_after before (next_role st ∷ rest) i 0 (omega (arith, l)),
      w ∙ sym (append_assoc before (next_role st ∷ []) rest),
    )
