-- After a document's node the reader of streams goes on at the end of the longest node there. Each derived stream has a
-- path there too: its node is that one, with or without the comment lines after it.
use Rattle.std.proofs.Common.{◌≡◌, ℕ, ◌-ℤ◌, ℤ, pos, ◌≤◌, Bool, true, false, List, [], Option, Some, None, refl, sym, ap, ◌∙◌, subst, arith}
use Rattle.std.proofs.lemmas.Int.{ints}
use Rattle.std.specs.Str.{IsUtf8}
use Rattle.yf_chars.specs.declared.context.Ctx.{Ctx}
use Rattle.yf_chars.specs.declared.context.Ctx.TheVariants.{BlockIn}
use Rattle.yf_chars.specs.Chain.{Chain, Chosen, Stuck}
use Rattle.yf_chars.specs.Chain.Chain.{done}
use Rattle.yf_comments.specs.Comment.{CommentValue}
use Rattle.yf_comments.specs.Comments.{LineEnd, Row}
use Rattle.yf_events.specs.declared.part.Part.{Part}
use Rattle.yf_grammar.specs.BlockReader.BlockParser.{LinesEnd, Nothing, Awaited, Below, Whole}
use Rattle.yf_grammar.specs.BlockReader.Halts.{Alone, Halts, alone_nowhere, alone_to}
use Rattle.yf_grammar.specs.BlockReader.Halts as Halting
use Rattle.yf_grammar.proofs.Laws.{Fills}
use Rattle.yf_grammar.specs.Productions.Meaning.{Meaning, noting}
use Rattle.yf_grammar.specs.FlowReader.Parser.{ParsedNode, found}
use Rattle.yf_grammar.specs.Productions.ReadParts.{BlockNodePart}
use Rattle.yf_grammar.proofs.BlockOutcomes.BlockClaims.{IsFound}
use Rattle.yf_grammar.proofs.BlockOutcomes.BlockExtended.{by_scalar}
use Rattle.yf_grammar.proofs.Documents.DocumentNodes.{DocumentFound, takes_lines, leaves_lines, document_node}
use Rattle.yf_grammar.proofs.BlockReader.HaltsAnswered.{halts_answered}
use Rattle.yf_grammar.proofs.Ends.Irrefutable.{sure, then}
use Rattle.yf_grammar.proofs.LawsHold.{no_block_node_is_missed, whole_nodes_are_chosen}
use Rattle.yf_grammar.proofs.BlockReader.WholeAnswered.{whole_answered}
use Rattle.yf_stream.specs.Stream.{RootNode}
use Rattle.yf_stream.proofs.HasReading.{noting_exists}
use Rattle.yf_stream.proofs.Uniqueness.OneStream.{Known, all_of_it, but_lines, known_of, known_some, line_stuck, node_one, settled_still}
use Rattle.yf_stream.proofs.Uniqueness.Stable.{stable_nat}
use Rattle.yf_stream.proofs.Uniqueness.StreamPath.{NodeTo, Settled}
use Rattle.yf_grammar.proofs.BlockReader.BlockSound.{alone_nothing}

-- the end of an outcome
abbrev end_of : ParsedNode → Option ParsedNode → ℕ
end_of d None = d.end
end_of d (Some f) = f.end

found_ends_at : {o : Option ParsedNode} {f : ParsedNode} {k g : ℕ} {y : Meaning} → o ≡ Some f → IsFound o k g y → f.end ≡ k
unfolding found
found_ends_at {f = f} q i = ap (end_of f) (sym q ∙ i.is)

-- the longest part there, before the comment lines after it
pub record PastNode (t : List ℕ) (h p l j : ℕ) (x : Meaning) (part : Part) : Type 0 where
  pub meaning : Meaning
  pub comments : List CommentValue
  pub node : RootNode t h p j meaning
  pub settled : Settled t j l comments
  pub is : x ≡ noting meaning comments
  pub fills : Fills t meaning part

same_end : {X : Type 0} {P : ℕ → X → Type 0} {j k : ℕ} {x y : X} → Chosen P j x → Chosen P k y → j ≡ k
same_end {j = j} {k = k} {x = x} {y = y} a b =
    let l = b.longest j x a.derived in
    let m = a.longest k y b.derived in
    omega arith

-- a whole outcome is the longest part
module _ {t : List ℕ} (u : IsUtf8 t) {e p j : ℕ} {part : Part} (chosen : Chosen (BlockNodePart t e (pos 0 -ℤ pos 1) BlockIn p) j part) where
  found_end : {o : Option ParsedNode} {k : ℕ} (h : ℕ) (y : Meaning) → Whole t e (Awaited false (pos 0 -ℤ pos 1) BlockIn Nothing p) o → o ≡ found k h false y → j ≡ k
  unfolding found
  found_end {o} {k} h y r q =
      let w = subst (λ z. Whole t e (Awaited false (pos 0 -ℤ pos 1) BlockIn Nothing p) z) q r in
      let n = noting_exists u 0 y.events in
      same_end chosen (whole_nodes_are_chosen t e p (pos 0 -ℤ pos 1) BlockIn (record { end = k; height = h; json = false; meaning = y })
      (record { events = n.0; comments = y.comments; escapes = y.escapes }) u refl (omega (arith, ints)) w
      (record { events = n.1; comments = refl; escapes = refl }))

  module _ {h l : ℕ} {x : Meaning} (n : NodeTo t h p l x) (ends : LinesEnd t l) (within : h ≤ e) where
    ends_as : (b : Bool) → ((o : Option ParsedNode) → Whole t e (Awaited false (pos 0 -ℤ pos 1) BlockIn Nothing p) o → DocumentFound h n.end l n.comments n.meaning o b)
        → (cs : List CommentValue) × Settled t j l cs
    ends_as false f =
        let q : j ≡ l = stable_nat.same j l (then (whole_answered u e (pos 0 -ℤ pos 1) BlockIn Nothing p) (λ o. sure (all_of (f o.outcome o.read) o.read))) in
        ([], record { rows = subst (λ w. Chain (Row t) j w []) q (done {i = j}); last = n.settled.last })
      where
        all_of : {o : Option ParsedNode} → DocumentFound h n.end l n.comments n.meaning o false → Whole t e (Awaited false (pos 0 -ℤ pos 1) BlockIn Nothing p) o → j ≡ l
        all_of (takes_lines q) r = found_end h (noting n.meaning n.comments) r q
    ends_as true f =
        let q : j ≡ n.end = stable_nat.same j n.end (then (whole_answered u e (pos 0 -ℤ pos 1) BlockIn Nothing p) (λ o. sure (but_rows (f o.outcome o.read) o.read))) in
        (n.comments, subst (λ w. Settled t w l n.comments) (sym q) n.settled)
      where
        but_rows : {o : Option ParsedNode} → DocumentFound h n.end l n.comments n.meaning o true → Whole t e (Awaited false (pos 0 -ℤ pos 1) BlockIn Nothing p) o → j ≡ n.end
        but_rows (leaves_lines q) r = found_end h n.meaning r q

    pub node_settles : (cs : List CommentValue) × Settled t j l cs
    node_settles = ends_as (by_scalar n.node.derived) (λ o r. document_node u n.node.derived within n.node.clear n.settled.rows n.settled.last ends r)

    pub past_node : PastNode t chosen.derived.height p l j x part
    past_node =
        let s = node_settles in
        let d = chosen.derived in
        let root : RootNode t d.height p j d.meaning = record { derived = d.derived; clear = d.clear } in
        let other : NodeTo t d.height p l (noting d.meaning s.0) = record { end = j; meaning = d.meaning; comments = s.0; node = root; settled = s.1; is = refl } in
        record {
          meaning = d.meaning;
          comments = s.0;
          node = root;
          settled = s.1;
          is = (node_one u n ends within other ends d.within).meaning;
          fills = record { events = d.events; comments = d.comments; escapes = d.escapes };
        }

-- if no node is derived, no stream has one there
pub no_node_to : {t : List ℕ} {e h p l : ℕ} {x : Meaning} → IsUtf8 t → Stuck (BlockNodePart t e (pos 0 -ℤ pos 1) BlockIn p) → h ≤ e → NodeTo t h p l x → ⊥
no_node_to {h = h} u s w n =
    let y = n.meaning in
    let m = noting_exists u 0 y.events in
    s.none n.end (record { events = m.0; comments = y.comments; escapes = y.escapes })
    (record { height = h; meaning = y; derived = n.node.derived; within = w; clear = n.node.clear; events = m.1; comments = refl; escapes = refl })

-- if `LinesEnd` holds after the end of a line and its comment lines, no node is derived
module _ {t : List ℕ} where
  alone_none : {ws : List ℕ} {i : ℕ} {o : Option ParsedNode} → Alone t ws Nothing i o → o ≡ None
  alone_none (alone_to {k = k} {ds = ds} c) = alone_nothing k ds
  alone_none (alone_nowhere s) = refl

  halts_below_none : {e q j l : ℕ} {n : ℤ} {c : Ctx} {cs es : List CommentValue} {o : Option ParsedNode} → Halts t e [] (Below n c Nothing q) o → LineEnd t q j cs → Settled t j l es → LinesEnd t l
      → o ≡ None
  halts_below_none (Halting.halts_alone d w a) f s z = alone_none a
  halts_below_none (Halting.halts_node d w b g r) f s z = absurd (line_stuck f s z d.derived w)
  halts_below_none (Halting.halts_before_node d w b g r a) f s z = alone_none a
  halts_below_none (Halting.halts_unended d) f s z = refl

  halts_none : {e q j l : ℕ} {n : ℤ} {c : Ctx} {cs es : List CommentValue} {o : Option ParsedNode} → Halts t e [] (Awaited false n c Nothing q) o → LineEnd t q j cs → Settled t j l es → LinesEnd t l
      → o ≡ None
  halts_none (Halting.halts_below d r) f s z = halts_below_none r f s z
  halts_none {j = j} {cs = cs} (Halting.halts_inline d m l w g r) f s z = absurd (d.none j cs f)
  halts_none (Halting.halts_missed d w) f s z = refl

  pub no_node_over : {e p j k l : ℕ} {cs es : List CommentValue} {part : Part} → IsUtf8 t → LineEnd t p k cs → Settled t k l es → LinesEnd t l
      → BlockNodePart t e (pos 0 -ℤ pos 1) BlockIn p j part → ⊥
  no_node_over {e} {p} {j} {part = part} u f s z d =
      (halts_answered u e (pos 0 -ℤ pos 1) BlockIn Nothing p).held
      (λ o. (no_block_node_is_missed t e p (pos 0 -ℤ pos 1) BlockIn u (subst (λ w. Halts t e [] (Awaited false (pos 0 -ℤ pos 1) BlockIn Nothing p) w) (halts_none o.read f s z) o.read)).none j part d)

-- if the reader finds no node, or neither comment lines nor `LinesEnd` follow its node, no stream has a node there
module _ {t : List ℕ} (u : IsUtf8 t) {e h p l : ℕ} {x : Meaning} (n : NodeTo t h p l x) (ends : LinesEnd t l) (within : h ≤ e) where
  pub no_node_unread : {o : Option ParsedNode} → Whole t e (Awaited false (pos 0 -ℤ pos 1) BlockIn Nothing p) o → o ≡ None → ⊥
  no_node_unread r q = known_some (known_of u n ends within r) q

  pub no_node_left : (o : Option ParsedNode) {f : ParsedNode} → Whole t e (Awaited false (pos 0 -ℤ pos 1) BlockIn Nothing p) o → o ≡ Some f → (LinesEnd t f.end → ⊥) → Stuck (Row t f.end) → ⊥
  no_node_left o {f} r q none s = go (known_of u n ends within r) where
    go : Known t h l x o → ⊥
    go (all_of_it i) = none (subst (λ z. LinesEnd t z) (sym (found_ends_at q i)) ends)
    go (but_lines {j = j} {es = es} i d m) =
        let same = found_ends_at q i in
        let still = settled_still s (subst (λ z. Settled t z l es) (sym same) d) in
        none (subst (λ z. LinesEnd t z) still.0 ends)
