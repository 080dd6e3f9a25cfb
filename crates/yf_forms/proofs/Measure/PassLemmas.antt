-- The pass over the events of a node notes its measure and those of the nodes in it, and hands the node to the
-- collection around it.
use Rattle.std.proofs.Common.{◌≡◌, ℕ, suc, ◌+◌, ◌-◌, true, false, List, [], ◌∷◌, ◌++◌, length, set, refl, sym, ap, ◌∙◌, arith, append_assoc, append-nil}
use Rattle.std.proofs.Math.Seq.{set-append_seam}
use Rattle.std.proofs.lemmas.Bool.{and_parts}
use Rattle.std.proofs.lemmas.List.{length-append}
use Rattle.yf_events.specs.Event.{EventInText, sequence_ends, mapping_ends}
use Rattle.yf_forms.specs.declared.form.ended.Ended.{Ended}
use Rattle.yf_forms.specs.declared.form.measure.Measure.{Measure}
use Rattle.yf_forms.specs.declared.form.collection.Open.{Open}
use Rattle.yf_forms.specs.NormalForms.Measures.{measure_of, no_measure}
use Rattle.yf_forms.specs.Passes.MeasurePass.{found, opened, closed, handed, noted, popped, pass, have_texts, with_node, ended_scalar, ended_alias}
use Rattle.yf_forms.specs.NormalForms.Normal.{LayoutSetting}
use Rattle.yf_events.specs.Tree.{Node, scalar, alias, sequence, mapping, Items, no_items, item, Pairs, no_pairs, pair, flat, flat_items, flat_pairs, unplaced}
use Rattle.yf_forms.proofs.Texts.TreeTexts.{texts_join, pair_texts}
use Rattle.yf_forms.proofs.Measure.SumLemmas.{ended_of, with_items, with_pairs}
use Rattle.yf_forms.proofs.Measure.EndedLemmas.{ended_items, ended_pairs, ended_as_scalar, ended_as_alias}

-- the measures of the events of a node
abbrev mutual
  pub measures_in : List ℕ → LayoutSetting → ℕ → Node → List Measure
  measures_in t c i (scalar at props style text lines) = measure_of t c i (scalar at props style text lines) ∷ []
  measures_in t c i (alias at name) = measure_of t c i (alias at name) ∷ []
  measures_in t c i (sequence at flow props xs) =
      measure_of t c i (sequence at flow props xs) ∷ (measures_in_items t c (i + 1) xs ++ (no_measure ∷ []))
  measures_in t c i (mapping at flow props ps) =
      measure_of t c i (mapping at flow props ps) ∷ (measures_in_pairs t c (i + 1) ps ++ (no_measure ∷ []))

  pub measures_in_items : List ℕ → LayoutSetting → ℕ → Items → List Measure
  measures_in_items t c i no_items = []
  measures_in_items t c i (item x xs) = measures_in t c i x ++ measures_in_items t c (i + length (flat x)) xs

  pub measures_in_pairs : List ℕ → LayoutSetting → ℕ → Pairs → List Measure
  measures_in_pairs t c i no_pairs = []
  measures_in_pairs t c i (pair k v ps) =
      measures_in t c i k ++ (measures_in t c (i + length (flat k)) v ++ measures_in_pairs t c (i + length (flat k) + length (flat v)) ps)

mutual
  measures_length : (t : List ℕ) (c : LayoutSetting) (i : ℕ) (x : Node) → length (measures_in t c i x) ≡ length (flat x)
  measures_length t c i (scalar at props style text lines) = refl
  measures_length t c i (alias at name) = refl
  measures_length t c i (sequence at flow props xs) =
      ap suc (length-append (measures_in_items t c (i + 1) xs) _ ∙ ap (λ n. n + 1) (items_length t c (i + 1) xs) ∙ sym (length-append (flat_items xs) _))
  measures_length t c i (mapping at flow props ps) =
      ap suc (length-append (measures_in_pairs t c (i + 1) ps) _ ∙ ap (λ n. n + 1) (pairs_length t c (i + 1) ps) ∙ sym (length-append (flat_pairs ps) _))

  items_length : (t : List ℕ) (c : LayoutSetting) (i : ℕ) (xs : Items) → length (measures_in_items t c i xs) ≡ length (flat_items xs)
  items_length t c i no_items = refl
  items_length t c i (item x xs) =
      length-append (measures_in t c i x) _ ∙ ap (λ n. n + length (measures_in_items t c (i + length (flat x)) xs)) (measures_length t c i x)
      ∙ ap (λ n. length (flat x) + n) (items_length t c (i + length (flat x)) xs) ∙ sym (length-append (flat x) (flat_items xs))

  pairs_length : (t : List ℕ) (c : LayoutSetting) (i : ℕ) (ps : Pairs) → length (measures_in_pairs t c i ps) ≡ length (flat_pairs ps)
  pairs_length t c i no_pairs = refl
  pairs_length t c i (pair k v ps) =
      let a : length (measures_in_pairs t c i (pair k v ps)) ≡ length (measures_in t c i k) + (length (measures_in t c (i + length (flat k)) v)
      + length (measures_in_pairs t c (i + length (flat k) + length (flat v)) ps)) =
      length-append (measures_in t c i k) _ ∙ ap (λ n. length (measures_in t c i k) + n) (length-append (measures_in t c (i + length (flat k)) v) _) in
      let b : length (flat_pairs (pair k v ps)) ≡ length (flat k) + (length (flat v) + length (flat_pairs ps)) =
      length-append (flat k) _ ∙ ap (λ n. length (flat k) + n) (length-append (flat v) _) in
      let d = measures_length t c i k in
      let e = measures_length t c (i + length (flat k)) v in
      let f = pairs_length t c (i + length (flat k) + length (flat v)) ps in
      a ∙ (rw (d, e, f) (sym b))

-- an open collection keeps its start

items_start : (t : List ℕ) (c : LayoutSetting) (i : ℕ) (xs : Items) (o : Open) → (with_items t c i xs o).start ≡ o.start
items_start t c i no_items o = refl
items_start t c i (item x xs) o = items_start t c (i + length (flat x)) xs (with_node o (ended_of t c i x))

pairs_start : (t : List ℕ) (c : LayoutSetting) (i : ℕ) (ps : Pairs) (o : Open) → (with_pairs t c i ps o).start ≡ o.start
pairs_start t c i no_pairs o = refl
pairs_start t c i (pair k v ps) o =
    pairs_start t c (i + length (flat k) + length (flat v)) ps (with_node (with_node o (ended_of t c i k)) (ended_of t c (i + length (flat k)) v))

-- a measure is noted at the index at which its event begins

set_at : (list : List Measure) (i : ℕ) (y m : Measure) (ys : List Measure) → length list ≡ i → set (list ++ (y ∷ ys)) i m ≡ list ++ (m ∷ ys)
set_at list i y m ys e = ap (λ n. set (list ++ (y ∷ ys)) n m) (sym e) ∙ set-append_seam list y ys m

same_found : {l m : List Measure} (stack : List Open) → l ≡ m → found l stack ≡ found m stack
same_found stack e = λ j. found (e j) stack

closes : (list inner : List Measure) (o : Open) (i end : ℕ) (e : Ended) (stack : List Open) → o.start ≡ i → length list ≡ i → closed o end ≡ e
    → popped end (((list ++ (no_measure ∷ [])) ++ inner) ++ (no_measure ∷ [])) (o ∷ stack)
    ≡ found (list ++ (e.measure ∷ (inner ++ (no_measure ∷ [])))) (handed e stack)
closes list inner o i end e stack s l q =
    let all : List Measure = ((list ++ (no_measure ∷ [])) ++ inner) ++ (no_measure ∷ []) in
    let row : all ≡ list ++ (no_measure ∷ (inner ++ (no_measure ∷ []))) =
    append_assoc (list ++ (no_measure ∷ [])) inner (no_measure ∷ []) ∙ append_assoc list (no_measure ∷ []) (inner ++ (no_measure ∷ [])) in
    ap (λ w. noted o.start w (found all stack)) q
    ∙ same_found (handed e stack) (ap (λ n. set all n e.measure) s ∙ ap (λ w. set w i e.measure) row ∙ set_at list i no_measure e.measure _ l)

mutual
  unfolding pass

  pub node_passed : (t : List ℕ) (c : LayoutSetting) (i : ℕ) (list : List Measure) (stack : List Open) (x : Node) (rest : List EventInText)
      → have_texts (flat x) ≡ true → length list ≡ i
      → pass t c (flat x ++ rest) (found list stack) ≡ pass t c rest (found (list ++ measures_in t c i x) (handed (ended_of t c i x) stack))
  node_passed t c i list stack (scalar at props style text lines) rest h e =
      ap (λ n. pass t c rest (noted n (ended_scalar c.style n at.span props style text) (found (list ++ (no_measure ∷ [])) stack))) e
      ∙ ap (λ w. pass t c rest (noted i w (found (list ++ (no_measure ∷ [])) stack))) (ended_as_scalar t c i at props style text lines)
      ∙ ap (pass t c rest) (same_found _ (set_at list i no_measure _ [] e))
  node_passed t c i list stack (alias at name) rest h e =
      ap (λ n. pass t c rest (noted n (ended_alias n name) (found (list ++ (no_measure ∷ [])) stack))) e
      ∙ ap (λ w. pass t c rest (noted i w (found (list ++ (no_measure ∷ [])) stack))) (ended_as_alias t c i at name)
      ∙ ap (pass t c rest) (same_found _ (set_at list i no_measure _ [] e))
  node_passed t c i list stack (sequence at flow props xs) rest h e =
      let o : Open = opened t c.comments i at.span props flow false in
      let first : List Measure = list ++ (no_measure ∷ []) in
      let next : length first ≡ i + 1 = length-append list (no_measure ∷ []) ∙ ap (λ n. n + 1) e in
      let all : List Measure = first ++ measures_in_items t c (i + 1) xs in
      let a : length all ≡ length first + length (measures_in_items t c (i + 1) xs) = length-append first _ in
      let b = items_length t c (i + 1) xs in
      let d : length (flat (sequence at flow props xs)) ≡ suc (length (flat_items xs) + 1) = ap suc (length-append (flat_items xs) _) in
      let end : length all ≡ i + length (flat (sequence at flow props xs)) - 1 = omega (arith, a, b, d, next) in
      let inner : have_texts (flat_items xs) ≡ true = (texts_join (flat_items xs) _ (and_parts _ _ h).1).0 in
      ap (λ n. pass t c ((flat_items xs ++ (unplaced sequence_ends ∷ [])) ++ rest) (found first (opened t c.comments n at.span props flow false ∷ stack))) e
      ∙ ap (λ es. pass t c es (found first (o ∷ stack))) (append_assoc (flat_items xs) (unplaced sequence_ends ∷ []) rest)
      ∙ items_passed t c (i + 1) first o stack xs (unplaced sequence_ends ∷ rest) inner next
      ∙ ap (pass t c rest) (closes list (measures_in_items t c (i + 1) xs) (with_items t c (i + 1) xs o) i (length all) (ended_of t c i (sequence at flow props xs)) stack
      (items_start t c (i + 1) xs o) e (ended_items t c i (length all) at flow props xs h end))
  node_passed t c i list stack (mapping at flow props ps) rest h e =
      let o : Open = opened t c.comments i at.span props flow true in
      let first : List Measure = list ++ (no_measure ∷ []) in
      let next : length first ≡ i + 1 = length-append list (no_measure ∷ []) ∙ ap (λ n. n + 1) e in
      let all : List Measure = first ++ measures_in_pairs t c (i + 1) ps in
      let a : length all ≡ length first + length (measures_in_pairs t c (i + 1) ps) = length-append first _ in
      let b = pairs_length t c (i + 1) ps in
      let d : length (flat (mapping at flow props ps)) ≡ suc (length (flat_pairs ps) + 1) = ap suc (length-append (flat_pairs ps) _) in
      let end : length all ≡ i + length (flat (mapping at flow props ps)) - 1 = omega (arith, a, b, d, next) in
      let inner : have_texts (flat_pairs ps) ≡ true = (texts_join (flat_pairs ps) _ (and_parts _ _ h).1).0 in
      ap (λ n. pass t c ((flat_pairs ps ++ (unplaced mapping_ends ∷ [])) ++ rest) (found first (opened t c.comments n at.span props flow true ∷ stack))) e
      ∙ ap (λ es. pass t c es (found first (o ∷ stack))) (append_assoc (flat_pairs ps) (unplaced mapping_ends ∷ []) rest)
      ∙ pairs_passed t c (i + 1) first o stack ps (unplaced mapping_ends ∷ rest) inner next
      ∙ ap (pass t c rest) (closes list (measures_in_pairs t c (i + 1) ps) (with_pairs t c (i + 1) ps o) i (length all) (ended_of t c i (mapping at flow props ps)) stack
      (pairs_start t c (i + 1) ps o) e (ended_pairs t c i (length all) at flow props ps h end))

  items_passed : (t : List ℕ) (c : LayoutSetting) (i : ℕ) (list : List Measure) (o : Open) (stack : List Open) (xs : Items) (rest : List EventInText)
      → have_texts (flat_items xs) ≡ true → length list ≡ i
      → pass t c (flat_items xs ++ rest) (found list (o ∷ stack))
      ≡ pass t c rest (found (list ++ measures_in_items t c i xs) (with_items t c i xs o ∷ stack))
  items_passed t c i list o stack no_items rest h e = ap (pass t c rest) (same_found (o ∷ stack) (sym (append-nil list)))
  items_passed t c i list o stack (item x xs) rest h e =
      let p = texts_join (flat x) (flat_items xs) h in
      let l : length (list ++ measures_in t c i x) ≡ i + length (flat x) =
      length-append list _ ∙ ap (λ n. n + length (measures_in t c i x)) e ∙ ap (λ n. i + n) (measures_length t c i x) in
      ap (λ es. pass t c es (found list (o ∷ stack))) (append_assoc (flat x) (flat_items xs) rest)
      ∙ node_passed t c i list (o ∷ stack) x (flat_items xs ++ rest) p.0 e
      ∙ items_passed t c (i + length (flat x)) (list ++ measures_in t c i x) (with_node o (ended_of t c i x)) stack xs rest p.1 l
      ∙ ap (pass t c rest) (same_found _ (append_assoc list _ _))

  pairs_passed : (t : List ℕ) (c : LayoutSetting) (i : ℕ) (list : List Measure) (o : Open) (stack : List Open) (ps : Pairs) (rest : List EventInText)
      → have_texts (flat_pairs ps) ≡ true → length list ≡ i
      → pass t c (flat_pairs ps ++ rest) (found list (o ∷ stack))
      ≡ pass t c rest (found (list ++ measures_in_pairs t c i ps) (with_pairs t c i ps o ∷ stack))
  pairs_passed t c i list o stack no_pairs rest h e = ap (pass t c rest) (same_found (o ∷ stack) (sym (append-nil list)))
  pairs_passed t c i list o stack (pair k v ps) rest h e =
      let p = pair_texts k v ps h in
      let l : length (list ++ measures_in t c i k) ≡ i + length (flat k) =
      length-append list _ ∙ ap (λ n. n + length (measures_in t c i k)) e ∙ ap (λ n. i + n) (measures_length t c i k) in
      let m : length ((list ++ measures_in t c i k) ++ measures_in t c (i + length (flat k)) v) ≡ i + length (flat k) + length (flat v) =
      length-append (list ++ measures_in t c i k) _ ∙ ap (λ n. n + length (measures_in t c (i + length (flat k)) v)) l
      ∙ ap (λ n. i + length (flat k) + n) (measures_length t c (i + length (flat k)) v) in
      ap (λ es. pass t c es (found list (o ∷ stack))) (append_assoc (flat k) (flat v ++ flat_pairs ps) rest ∙ ap (λ w. flat k ++ w) (append_assoc (flat v) (flat_pairs ps) rest))
      ∙ node_passed t c i list (o ∷ stack) k (flat v ++ (flat_pairs ps ++ rest)) p.key e
      ∙ node_passed t c (i + length (flat k)) (list ++ measures_in t c i k) (with_node o (ended_of t c i k) ∷ stack) v (flat_pairs ps ++ rest) p.value l
      ∙ pairs_passed t c (i + length (flat k) + length (flat v)) ((list ++ measures_in t c i k) ++ measures_in t c (i + length (flat k)) v)
      (with_node (with_node o (ended_of t c i k)) (ended_of t c (i + length (flat k)) v)) stack ps rest p.others m
      ∙ ap (pass t c rest) (same_found _ (append_assoc (list ++ measures_in t c i k) _ _ ∙ append_assoc list _ _))
