-- The results of the reader of block nodes, from those of a run.
use Rattle.std.proofs.Common.{◌≡◌, ℕ, ◌<◌, ◌≤◌, ◌^◌, ℤ, pos, ◌+ℤ◌, ◌≤ℤ◌, true, false, List, [], ◌++◌, length, take, Option, Some, None, refl, sym, ap, ◌∙◌, subst, true≢false, arith}
use Rattle.std.proofs.lemmas.Int.{ints}
use Rattle.std.proofs.lemmas.Option.{same_Some}
use Rattle.std.specs.Str.{IsUtf8}
use Rattle.yf_chars.specs.declared.context.Ctx.{Ctx}
use Rattle.yf_chars.specs.Chain.{Stuck, Chosen}
use Rattle.yf_lines.specs.Basic.{is_block}
use Rattle.yf_lines.specs.FaultPlaces.{InText}
use Rattle.yf_lines.specs.declared.fault.Fault.TheVariants.{TooDeep as TooDeepFault}
use Rattle.yf_lines.specs.declared.place.Position.{Position}
use Rattle.yf_events.specs.Event.{EventInText}
use Rattle.yf_events.specs.declared.part.Part.{Part}
use Rattle.yf_events.specs.declared.reading.TheConstants.{DEPTH}
use Rattle.yf_grammar.proofs.Laws.{Fills}
use Rattle.yf_grammar.specs.FlowReader.Parser.{ParsedNode, found}
use Rattle.yf_grammar.specs.Productions.ReadParts.{Noting, no_event, without_entry, with_entry, floor_after_event, BlockNodePart}
use Rattle.yf_grammar.specs.BlockReader.BlockParser.{text_ends, Nothing, BlockTask, Awaited, Whole}
use Rattle.yf_grammar.specs.BlockReader.Halts.{Halts}
use Rattle.yf_grammar.specs.Refusal.{ScanFault, for_depth}
use Rattle.yf_grammar.proofs.Ends.Parts.{part_one}
use Rattle.yf_grammar.proofs.LawsHold.{whole_nodes_are_chosen, no_block_node_is_missed}
use Rattle.yf_grammar.proofs.Prefixes.PrefixWhole.{prefix_is_whole, prefix_reads, prefix_reads_some, prefix_boundary, prefix_utf8, prefix_length}
use Rattle.yf_grammar.proofs.BlockReader.SoundSteps.{Width}
use Rattle.yf_grammar.proofs.Prefixes.WholeLast.{whole_ends_last, last_moves, whole_moves}
use Rattle.yf_flow.specs.Depth.{openers_from}
use Rattle.yf_block.specs.declared.nodes.FoundBlock.{FoundBlock as FoundNode}
use Rattle.yf_block.specs.declared.nodes.Stop.{Stop}
use Rattle.yf_block.specs.declared.nodes.Stop.TheVariants.{Done, Failed, TooDeep}
use Rattle.yf_block.specs.declared.nodes.Stopped.{Stopped}
use Rattle.yf_block.specs.BlockTied.{floor_after, halt_end, TextTied}
use Rattle.yf_block.specs.BlockStepTied.{TextIsLeft, none_found, line_left}
use Rattle.yf_block.specs.NodeGiven.{NodeGiven, FoundTied, NoneTied}
use Rattle.yf_block.specs.RunTied.{RunDone, StopGives, RunTied, HaltAt}

-- notes change no floor
floor_noted : {t : List ℕ} {floor : ℕ} {x y : List EventInText} (f : ℕ) → Noting t floor x y → floor_after f x ≡ floor_after f y
floor_noted f no_event = refl
floor_noted f (without_entry {e = e} q r) = floor_noted (floor_after_event f e e.event) r
floor_noted f (with_entry {e = e} entry q s r) = floor_noted (floor_after_event f e e.event) r

-- the last halt of a run, however it stopped
pub record RunHalts (t : List ℕ) (d : ℕ) (root : BlockTask) (r : Stopped) : Type 0 where
  pub halt : Option ParsedNode
  pub halts : Halts t d [] root halt
  pub halted : r.halt ≡ halt_end halt

module _ {t : List ℕ} {d : ℕ} {root : BlockTask} {r : Stopped} where
  halts_in : (before part : Part) (s : Stop) → StopGives t d root before s r part → RunHalts t d root r
  halts_in before part (Done p) a = record { halt = a.halt; halts = a.halts; halted = a.halted }
  halts_in before part (Failed p) a = record { halt = a.halt; halts = a.halts; halted = a.halted }
  halts_in before part (TooDeep p) a = record { halt = a.halt; halts = a.halts; halted = a.halted }

  pub run_halts : {before part : Part} → RunTied t d root before r part → RunHalts t d root r
  run_halts {before} {part} a = halts_in before part r.stop a.gives

  pub halt_at : {end : ℕ} → RunHalts t d root r → r.halt ≡ Some end → HaltAt t d root end
  halt_at {end} h e = go h.halt h.halts (sym h.halted ∙ e) where
    go : (o : Option ParsedNode) → Halts t d [] root o → halt_end o ≡ Some end → HaltAt t d root end
    go None x q = absurd cc
    go (Some f) x q = record { found = f; halts = x; ends = cc }

wide_of : {n : ℤ} (least : ℕ) → pos least ≡ n +ℤ pos 1 → Width n
wide_of least is = record { width = least; is = sym is }

not_below : (n : ℤ) (least : ℕ) → pos least ≡ n +ℤ pos 1 → pos 0 ≤ℤ (n +ℤ pos 1)
not_below n least is = omega (arith, ints, is)

module _ {t : List ℕ} {d at : ℕ} {n : ℤ} {c : Ctx} (u : IsUtf8 t) (block : is_block c ≡ true) (least : ℕ) (is : pos least ≡ n +ℤ pos 1) where
  -- the node was read whole
  pub done_given : {before part : Part} {p : ℕ} {r : Stopped} → RunDone t d (Awaited false n c Nothing at) before p r part → NodeGiven t d n c at p r.floor before part
  done_given {before} {part} {p} {r} a =
      let w = a.written in
      let own : Part = record { events = w.events; comments = a.answer.meaning.comments; escapes = a.answer.meaning.escapes } in
      let fills : Fills t a.answer.meaning own = record { events = w.noting; comments = refl; escapes = refl } in
      record {
        node = own;
        chosen = subst (λ z. Chosen (BlockNodePart t d n c at) z own) a.end (whole_nodes_are_chosen t d at n c a.answer own u block (not_below n least is) a.whole fills);
        added = record { events = w.added.events; comments = w.added.comments; escapes = w.added.escapes };
        floor_is = a.floor ∙ floor_noted 0 w.noting;
      }

  pub whole_given : {before part : Part} {p : ℕ} {r : Stopped} → r.stop ≡ Done p → RunTied t d (Awaited false n c Nothing at) before r part → NodeGiven t d n c at p r.floor before part
  whole_given {before} {part} {p} {r} e a = done_given (subst (λ z. StopGives t d (Awaited false n c Nothing at) before z r part) e a.gives)

  -- no node may end anywhere
  pub none_given : Halts t d [] (Awaited false n c Nothing at) None → Stuck (BlockNodePart t d n c at)
  none_given h = no_block_node_is_missed t d at n c u h

  pub halt_moves : {end : ℕ} → HaltAt t d (Awaited false n c Nothing at) end → at < end
  halt_moves {end} h = subst (λ z. at < z) h.ends (last_moves u block (wide_of least is) h.halts)

  -- a run that stopped before the node's end went wrong
  done_ends : {before part : Part} {p : ℕ} {r : Stopped} → RunDone t d (Awaited false n c Nothing at) before p r part → r.halt ≡ Some p
  done_ends a = let l = whole_ends_last u block (wide_of least is) a.whole a.halts in a.halted ∙ ap (λ z. halt_end z) l.is ∙ ap (λ (z : ℕ). Some z) (l.end ∙ a.end)

  pub run_unfinished : {before part : Part} {end : ℕ} {r : Stopped} → RunTied t d (Awaited false n c Nothing at) before r part → r.halt ≡ Some end → (r.stop ≡ Done end → ⊥)
      → TextIsLeft t d (Awaited false n c Nothing at)
  run_unfinished {before} {part} {end} {r} a e m = go r.stop a.gives m where
    go : (s : Stop) → StopGives t d (Awaited false n c Nothing at) before s r part → (s ≡ Done end → ⊥) → TextIsLeft t d (Awaited false n c Nothing at)
    go (Done p) b m = absurd (m (ap (λ z. Done z) (same_Some _ _ (sym (done_ends b) ∙ e))))
    go (Failed p) b m = b.unfinished
    go (TooDeep p) b m = b.unfinished

  pub run_unended : {before part : Part} {r : Stopped} → RunTied t d (Awaited false n c Nothing at) before r part → ((end : ℕ) → r.halt ≡ Some end → end ≤ at)
      → TextIsLeft t d (Awaited false n c Nothing at)
  run_unended {before} {part} {r} a m = go r.stop a.gives where
    go : (s : Stop) → StopGives t d (Awaited false n c Nothing at) before s r part → TextIsLeft t d (Awaited false n c Nothing at)
    go (Done p) b =
        let l = m p (done_ends b) in
        let k = whole_moves u block (wide_of least is) b.whole in
        let e = b.end in
        absurd (omega arith)
    go (Failed p) b = b.unfinished
    go (TooDeep p) b = b.unfinished

  -- a halt that no node has
  pub unmoved_given : {r : Stopped} → RunHalts t d (Awaited false n c Nothing at) r → ((end : ℕ) → r.halt ≡ Some end → end ≤ at) → Stuck (BlockNodePart t d n c at)
  unmoved_given {r} h m = go h.halt h.halts h.halted where
    go : (o : Option ParsedNode) → Halts t d [] (Awaited false n c Nothing at) o → r.halt ≡ halt_end o → Stuck (BlockNodePart t d n c at)
    go None x q = none_given x
    go (Some f) x q = let l = last_moves u block (wide_of least is) x in let k = m f.end q in absurd (omega arith)

  -- the prefix of the text that ends with the last halt
  module _ {f : ParsedNode} (r : Halts t d [] (Awaited false n c Nothing at) (Some f)) where
    text_there : length t ≤ 2 ^ 30 → TextTied (take f.end t)
    text_there l =
        let e = prefix_length u block (wide_of least is) r in
        let b = prefix_boundary u block (wide_of least is) r in
        let k = b.0 in
        record { utf8 = prefix_utf8 u block (wide_of least is) r; size = omega arith }

    given_there : {start read : Part} {run : Stopped} → RunDone (take f.end t) d (Awaited false n c Nothing at) start f.end run read → NodeGiven t d n c at f.end run.floor start read
    given_there {start} {read} {run} a =
        let w = a.written in
        let own : Part = record { events = w.events; comments = a.answer.meaning.comments; escapes = a.answer.meaning.escapes } in
        let fills : Fills (take f.end t) a.answer.meaning own = record { events = w.noting; comments = refl; escapes = refl } in
        record {
          node = own;
          chosen = subst (λ z. Chosen (BlockNodePart t d n c at) z own) a.end (prefix_reads u block (wide_of least is) r a.whole fills);
          added = record { events = w.added.events; comments = w.added.comments; escapes = w.added.escapes };
          floor_is = a.floor ∙ floor_noted 0 w.noting;
        }

    whole_there : {g : ParsedNode} → Whole (take f.end t) d (Awaited false n c Nothing at) (Some g) → g.end ≡ f.end
    unfolding found
    whole_there w = let e = prefix_is_whole u block (wide_of least is) r w in cc

    unbroken_there : TextIsLeft (take f.end t) d (Awaited false n c Nothing at) → ⊥
    unbroken_there (none_found w) = prefix_reads_some u block (wide_of least is) r w
    unbroken_there (line_left w l s) = l (text_ends (whole_there w ∙ sym (prefix_length u block (wide_of least is) r)))

    stops_there : (start read : Part) (run : Stopped) (s : Stop) → StopGives (take f.end t) d (Awaited false n c Nothing at) start s run read → s ≡ Done f.end
    stops_there start read run (Done p) a = ap (λ z. Done z) (sym a.end ∙ whole_there a.whole)
    stops_there start read run (Failed p) a = absurd (unbroken_there a.unfinished)
    stops_there start read run (TooDeep p) a = absurd (unbroken_there a.unfinished)

  -- a text that is this prefix
  module _ {end : ℕ} {s : List ℕ} (h : HaltAt t d (Awaited false n c Nothing at) end) (same : s ≡ take end t) where
    pub prefix_text : length t ≤ 2 ^ 30 → TextTied s
    prefix_text l = subst (λ z. TextTied z) (sym same) (subst (λ z. TextTied (take z t)) h.ends (text_there h.halts l))

    -- a run over it reads all of it
    pub prefix_stops : {start read : Part} {run : Stopped} → RunTied s d (Awaited false n c Nothing at) start run read → run.stop ≡ Done end
    prefix_stops {start} {read} {run} a =
        subst (λ z. StopGives (take z t) d (Awaited false n c Nothing at) start run.stop run read → run.stop ≡ Done z) h.ends (stops_there h.halts start read run run.stop)
        (subst (λ z. StopGives z d (Awaited false n c Nothing at) start run.stop run read) same a.gives)

    pub prefix_given : {start read : Part} {run : Stopped} → run.stop ≡ Done end → RunTied s d (Awaited false n c Nothing at) start run read → NodeGiven t d n c at end run.floor start read
    prefix_given {start} {read} {run} e a =
        subst (λ z. RunDone (take z t) d (Awaited false n c Nothing at) start z run read → NodeGiven t d n c at z run.floor start read) h.ends (given_there h.halts)
        (subst (λ z. RunDone z d (Awaited false n c Nothing at) start end run read) same (subst (λ z. StopGives s d (Awaited false n c Nothing at) start z run read) e a.gives))

-- the node after another part
pub given_after : {t : List ℕ} {limit : ℕ} {n : ℤ} {c : Ctx} {at end floor : ℕ} {start read old new : Part} → start.events ≡ [] → start.comments ≡ [] → start.escapes ≡ []
    → new.events ≡ old.events ++ read.events → new.comments ≡ old.comments ++ read.comments → new.escapes ≡ old.escapes ++ read.escapes
    → NodeGiven t limit n c at end floor start read → NodeGiven t limit n c at end floor old new
given_after {old = old} e f g x y z q = record {
  node = q.node;
  chosen = q.chosen;
  added = record {
    events = x ∙ ap (λ w. old.events ++ w) (q.added.events ∙ ap (λ w. w ++ q.node.events) e);
    comments = y ∙ ap (λ w. old.comments ++ w) (q.added.comments ∙ ap (λ w. w ++ q.node.comments) f);
    escapes = z ∙ ap (λ w. old.escapes ++ w) (q.added.escapes ∙ ap (λ w. w ++ q.node.escapes) g);
  };
  floor_is = q.floor_is;
}

-- the node over a part that is cut back to nothing
pub given_over : {t : List ℕ} {limit : ℕ} {n : ℤ} {c : Ctx} {at end floor : ℕ} {old start new : Part} → old.events ≡ start.events → old.comments ≡ start.comments → old.escapes ≡ start.escapes
    → NodeGiven t limit n c at end floor old new → NodeGiven t limit n c at end floor start new
given_over e f g q = record {
  node = q.node;
  chosen = q.chosen;
  added = record {
    events = q.added.events ∙ ap (λ w. w ++ q.node.events) e;
    comments = q.added.comments ∙ ap (λ w. w ++ q.node.comments) f;
    escapes = q.added.escapes ∙ ap (λ w. w ++ q.node.escapes) g;
  };
  floor_is = q.floor_is;
}

pub cut_to_nothing : {A : Type 0} (k : ℕ) (xs ys zs : List A) → k ≡ length ys → ys ≡ [] → zs ≡ take k xs → zs ≡ ys
cut_to_nothing k xs ys zs e f g = g ∙ ap (λ (z : ℕ). take z xs) (e ∙ ap (λ z. length z) f) ∙ sym f

-- the result after a node was found and its prefix was read again
pub found_again : {t : List ℕ} {d at : ℕ} {n : ℤ} {c : Ctx} {start cut part : Part} {f : FoundNode} → f.whole ≡ false → TextIsLeft t d (Awaited false n c Nothing at)
    → (f.too_deep ≡ true → d < openers_from t at)
    → (start.events ≡ [] → cut.events ≡ start.events) → (start.comments ≡ [] → cut.comments ≡ start.comments) → (start.escapes ≡ [] → cut.escapes ≡ start.escapes)
    → NodeGiven t d n c at f.end f.floor cut part → FoundTied t d n c at start f part
found_again e z o a b g q = record {
  whole = λ w. absurd (true≢false (sym w ∙ e));
  broken = λ w. z;
  deep = o;
  alone = λ x y w. given_over (a x) (b y) (g w) q;
}

-- a part that was empty is the node
pub node_alone : {t : List ℕ} {limit : ℕ} {n : ℤ} {c : Ctx} {at end floor : ℕ} {start part : Part} → start.events ≡ [] → start.comments ≡ [] → start.escapes ≡ []
    → NodeGiven t limit n c at end floor start part → Chosen (BlockNodePart t limit n c at) end part
node_alone {t} {limit} {n} {c} {at} {end} {start = start} {part = part} e f g q =
    let x = q.added.events ∙ ap (λ w. w ++ q.node.events) e in
    let y = q.added.comments ∙ ap (λ w. w ++ q.node.comments) f in
    let z = q.added.escapes ∙ ap (λ w. w ++ q.node.escapes) g in
    subst (λ w. Chosen (BlockNodePart t limit n c at) end w) (sym (part_one part q.node x y z)) q.chosen

pub too_deep_given : {t : List ℕ} {n : ℤ} {c : Ctx} {at : ℕ} {place : Position} → NoneTied t DEPTH n c at × (DEPTH < openers_from t at) → InText t place
    → ScanFault t (BlockNodePart t DEPTH n c at) at (TooDeepFault place)
unfolding openers_from
too_deep_given q p = for_depth q.0.none q.1 p
