-- Steps after a whole node, collection by collection: its frame is taken off the stack, and the line ends the
-- collection or goes on with it.
use Rattle.std.proofs.Common.{◌≡◌, ℕ, suc, ◌-◌, Bool, true, false, List, [], ◌∷◌, ◌++◌, length, Option, Some, None, MatchOption, sym, ap, ◌∙◌, subst, arith}
use Rattle.yf_chars.proofs.Tests.{no_cons}
use Rattle.yf_events.specs.Edit.{edited, ended}
use Rattle.yf_events.specs.declared.part.Part.{Part}
use Rattle.yf_grammar.specs.Productions.Meaning.{Meaning, ◌⊕◌}
use Rattle.yf_grammar.specs.FlowReader.Parser.{only}
use Rattle.yf_grammar.specs.BlockReader.BlockParser.{LineText, BlockTask}
use Rattle.yf_grammar.specs.BlockReader.BlockStack.{Layer, asks, asked, column_if}
use Rattle.yf_grammar.specs.BlockReader.BlockStates.{NodeRead, LayersDeepen, one_deepens}
use Rattle.yf_grammar.proofs.BlockStack.BlockResume.{entry_was_read, collection_ends, root_was_read, root_halts}
use Rattle.yf_block.specs.declared.frame.Frame.{Frame}
use Rattle.yf_block.specs.declared.frame.BlockCursor.{BlockCursor}
use Rattle.yf_block.specs.LookTests.{EntryPlace, NotWithinBreak}
use Rattle.yf_block.specs.LineFits.{PlaceTied, EndLine}
use Rattle.yf_block.specs.CollectionEnds.{closing}
use Rattle.yf_block.specs.BlockTied.{layers_entry, begins, all_written, ReadTied, frame_tied, no_frames, FramesTied, colons_if, FrameTied}
use Rattle.yf_block.specs.BlockStepTied.{AtResume, AtTop, AtDone}
use Rattle.yf_flow.proofs.Stack.TiedClose.{cons_parts}
use Rattle.yf_block.proofs.Stack.TiedClosing.{asks_mapping, closed_read, closed_finish}
use Rattle.yf_block.proofs.Stack.TiedFits.{tied_ends}
use Rattle.yf_block.proofs.Stack.TiedReads.{read_moved}

pub place_tied : {t : List ℕ} {at : ℕ} (o : Option ℕ) → NotWithinBreak t at → MatchOption o (NotWithinBreak t at → (m : ℕ) → (p : ℕ) → LineText t at m p → ⊥) (λ p. EntryPlace t at p) → PlaceTied t at o
place_tied None b e = e b
place_tied (Some p) b e = e

read_first : {t : List ℕ} {before part : Part} {x : Meaning} {progress : BlockCursor} → ReadTied t before (only [] 0 ⊕ x) progress part → ReadTied t before x progress part
unfolding only ◌⊕◌
read_first r = record {
  text = r.text;
  floor = r.floor;
  floor_line = r.floor_line;
  written = record { events = r.written.events; noting = r.written.noting; added = r.written.added };
}

count_asked : (b : Bool) (w : ℕ) (ws : List ℕ) (n m : ℕ) → n ≡ length (column_if b w ws) → m ≡ n - colons_if b → m ≡ length ws
count_asked true w ws n m e q = omega (arith, e, q)
count_asked false w ws n m e q = omega (arith, e, q)

module _ {t : List ℕ} {d : ℕ} {root : BlockTask} {before part : Part} {at : ℕ} where
  -- the frame of the innermost collection
  pub top_of : {frames rest : List Frame} {f : Frame} {old new : BlockCursor} → AtResume t d root before frames at old part → frames ≡ f ∷ rest
      → new.colons ≡ old.colons - colons_if f.awaits_colon → new.last ≡ old.last → new.floor ≡ old.floor → new.halt ≡ old.halt → AtTop t d root before rest at f new part
  top_of {frames} {rest} {f} {old} {new} a e c l o h = go frames a.layers a.stack.frames_tied a.stack.order a.node a.stack.colons a.read e where
    go : (fs : List Frame) (ls : List Layer) → FramesTied (length before.events) fs ls → LayersDeepen ls → NodeRead t d root ls a.room a.answer at a.halt → old.colons ≡ length (asked ls)
        → ReadTied t before (all_written ls ⊕ begins (layers_entry ls) a.answer.meaning) old part → fs ≡ f ∷ rest → AtTop t d root before rest at f new part
    go [] [] no_frames s n k r q = absurd (no_cons q)
    go [] (layer ∷ ls) u s n k r q = elim u [ ]
    go (g ∷ fs) [] u s n k r q = elim u [ ]
    go (g ∷ fs) (layer ∷ ls) (frame_tied u v) (one_deepens w s) n k r q =
        let z = cons_parts q in
        let u' : FrameTied (length before.events) layer ls f = subst (λ g. FrameTied (length before.events) layer ls g) z.0 u in
        record {
          layer = layer;
          layers = ls;
          room = a.room;
          answer = a.answer;
          halt = a.halt;
          node = n;
          outside = a.outside;
          past = let b = a.past in omega (arith, b, o);
          order = w;
          frame = u';
          last = l ∙ a.last;
          stack = record {
            order = s;
            frames_tied = subst (λ g. FramesTied (length before.events) g ls) z.1 v;
            colons = count_asked (asks layer.stage) layer.column (asked ls) old.colons new.colons k (c ∙ ap (λ b. old.colons - colons_if b) u'.awaits);
            halted = h ∙ a.stack.halted;
          };
          read = read_moved r o;
        }

  -- its collection ends
  pub one_ended : {frames : List Frame} {f : Frame} {progress : BlockCursor} {new : Part} → AtTop t d root before frames at f progress part → EndLine t at f
      → new.events ≡ edited (ended progress.last) f.event (part.events ++ closing f) → new.comments ≡ part.comments → new.escapes ≡ part.escapes
      → AtResume t d root before frames at progress new
  one_ended {f = f} a e x y z =
      let n = tied_ends a.frame (asks_mapping a.node.around) e in
      record {
        layers = a.layers;
        room = suc a.room;
        answer = _;
        halt = a.halt;
        node = collection_ends (entry_was_read a.node n.no_colon) n.no_entry;
        outside = a.outside;
        past = a.past;
        last = closed_finish a.layer a.layers a.answer f a.frame a.read a.last x y z;
        stack = a.stack;
        read = closed_read a.layer a.layers a.answer f a.frame a.read a.last x y z;
      }

  -- all have ended
  pub all_ended : {frames : List Frame} {progress : BlockCursor} → AtResume t d root before frames at progress part → frames ≡ [] → AtDone t d root before at progress part
  all_ended {frames} {progress} a e = go frames a.layers a.stack.frames_tied a.node a.read e where
    go : (fs : List Frame) (ls : List Layer) → FramesTied (length before.events) fs ls → NodeRead t d root ls a.room a.answer at a.halt
        → ReadTied t before (all_written ls ⊕ begins (layers_entry ls) a.answer.meaning) progress part → fs ≡ [] → AtDone t d root before at progress part
    go [] (layer ∷ ls) u n r q = elim u [ ]
    go (g ∷ fs) [] u n r q = elim u [ ]
    go [] [] no_frames n r q = record {
      answer = a.answer;
      halt = a.halt;
      whole = root_was_read n;
      halts = root_halts n;
      end = n.end;
      halted = a.stack.halted;
      read = read_first r;
    }
    go (g ∷ fs) (layer ∷ ls) (frame_tied u v) n r q = absurd (no_cons (sym q))
