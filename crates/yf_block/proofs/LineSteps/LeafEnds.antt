-- The end of the line after a leaf: the leaf is read whole, or all nodes break; and the last offset noted at which
-- all nodes may end.
use Rattle.std.proofs.Common.{◌≡◌, ℕ, ℤ, pos, ◌+ℤ◌, true, false, List, [], ◌++◌, Option, Some, None, refl, sym, ap, ◌∙◌, subst, arith, append_assoc, append-nil}
use Rattle.std.specs.Str.{IsUtf8}
use Rattle.yf_chars.specs.declared.context.Ctx.TheVariants.{FlowOut}
use Rattle.yf_chars.specs.Text.{code}
use Rattle.yf_chars.specs.Chain.{Stuck, Chosen}
use Rattle.yf_chars.proofs.Tests.{none_some}
use Rattle.yf_lines.specs.Basic.{LineStart}
use Rattle.yf_comments.specs.Comment.{CommentValue}
use Rattle.yf_comments.specs.Comments.{LineEnd}
use Rattle.yf_events.specs.declared.part.Part.{Part}
use Rattle.yf_grammar.specs.Productions.BlockScalar.{BlockScalar}
use Rattle.yf_grammar.specs.Productions.Meaning.{Meaning, ◌⊕◌, meaning_after, noting, with_props}
use Rattle.yf_grammar.specs.Productions.ReadParts.Noting.{no_event}
use Rattle.yf_grammar.specs.FlowReader.Parser.{ParsedNode, ANode, Parses, only, begins_plain}
use Rattle.yf_grammar.specs.BlockReader.BlockParser.{Ahead, Nothing, Indicator, Props, headed, MayLeaf, BlockTask, Leaf, leaf_found, Whole}
use Rattle.yf_grammar.specs.BlockReader.BlockParser.Whole.{leaf_read, leaf_unended}
use Rattle.yf_grammar.specs.BlockReader.Halts.{MayEnd, PlainPart, with_plain, Halts}
use Rattle.yf_grammar.specs.BlockReader.Halts.Halts.{halts_plain, halts_plain_missed, halts_content, halts_content_unended}
use Rattle.yf_grammar.specs.BlockReader.BlockSteps.{made_or, as_after}
use Rattle.yf_grammar.specs.BlockReader.BlockStack.{Layer, rounds, asked}
use Rattle.yf_grammar.proofs.FlowStack.AwaitEntries.{found_is}
use Rattle.yf_grammar.proofs.Ends.BlankRuns.{no_start_past}
use Rattle.yf_grammar.proofs.BlockOutcomes.BlockHalts.{plain_was_read}
use Rattle.yf_grammar.proofs.BlockStack.BlockNodeSteps.{node_was_read, node_breaks}
use Rattle.yf_grammar.proofs.BlockOutcomes.BlockStarts.{line_end_forward}
use Rattle.yf_grammar.proofs.BlockOutcomes.NodesAfter.{node_next}
use Rattle.yf_grammar.proofs.BlockOutcomes.OutcomeEnds.{leaf_is, with_plain_is}
use Rattle.yf_grammar.proofs.FlowReader.ParserLemmas.{Same}
use Rattle.yf_grammar.proofs.BlockContent.PlainCut.{whole_plain, plain_without_last, plain_one_line}
use Rattle.yf_grammar.proofs.FlowReader.Sound.{found_is_derived}
use Rattle.yf_grammar.proofs.NodesInText.MeantLemmas.{after_comments, noting_comments}
use Rattle.yf_block.specs.declared.frame.Frame.{Frame}
use Rattle.yf_block.specs.declared.frame.BlockCursor.{BlockCursor}
use Rattle.yf_block.specs.BlockTied.{layers_entry, begins, ahead_comments, all_written, ReadTied, halt_end}
use Rattle.yf_block.specs.BlockStepTied.{AtResume, AtFailed}
use Rattle.yf_block.specs.ContentTied.{PlainIs, plain_known, other_known, AtLeaf, LeafEnding, leaf_ends, line_goes_on}
use Rattle.yf_block.specs.LastStarts.{LastStart, NoStart}
use Rattle.yf_block.specs.LookTests.{NotWithinBreak}
use Rattle.yf_block.specs.HaltNotes.{ColonsCounted, NodeNoted, node_noted, node_before, node_shorter, ShorterNoted, shorter_noted, one_line, no_plain}
use Rattle.yf_block.proofs.Stack.TiedFailed.{broken_fails}
use Rattle.yf_block.proofs.LineSteps.ContentLeaves.{headed_finish, headed_comments, headed_escapes, begins_same}
use Rattle.yf_block.proofs.Ends.LineHalts.{colons_counted, outside_end, rounds_end, last_line_of, no_last_line, may_end_at, may_end_before, may_end_nowhere}
use Rattle.yf_block.proofs.Stack.TiedLeads.{read_added, begins_comments, begins_escapes}
use Rattle.yf_block.proofs.Stack.TiedReads.{read_as, read_moved}

-- the last offset noted, after an earlier one
abbrev pub noted_end : Option ℕ → Option ParsedNode → Option ℕ
noted_end old None = old
noted_end old (Some f) = Some f.end

-- a last halt of a leaf, as it was noted
pub record HaltNoted (t : List ℕ) (e : ℕ) (ws : List ℕ) (task : BlockTask) (old new : Option ℕ) : Type 0 where
  pub outcome : Option ParsedNode
  pub halted : Halts t e ws task outcome
  pub noted : new ≡ noted_end old outcome

pub same_plain : {x y : ℕ} → Some x ≡ Some y → y ≡ x
same_plain e = cc

pub leaf_made : (a : Ahead) (j h : ℕ) (x : Meaning) (ds : List CommentValue) → leaf_found a j h x ds ≡ Some (record { end = j; height = h; json = false; meaning = headed a (noting x ds) })
leaf_made a j h x ds = leaf_is a j h x ds ∙ found_is j h false (headed a (noting x ds))

plain_made : (a : Ahead) (j : ℕ) (x : Meaning) → with_plain a j x ≡ Some (record { end = j; height = 0; json = false; meaning = headed a x })
plain_made a j x = with_plain_is a j x ∙ found_is j 0 false (headed a x)

module _ {t : List ℕ} (u : IsUtf8 t) {e : ℕ} {ws : List ℕ} {n : ℤ} {a : Ahead} {p : ℕ} (s : Stuck (BlockScalar t n p)) (m : MayLeaf t a p) {f : ParsedNode} (r : Parses t e (ANode (n +ℤ pos 1) FlowOut p) (Some f)) where
  -- of a plain scalar
  plain_to : {j : ℕ} {x : Meaning} (old : Option ℕ) → begins_plain (code t p) ≡ true → Chosen (PlainPart t (n +ℤ pos 1) ws p) j x → HaltNoted t e ws (Leaf n a p) old (Some j)
  plain_to {j} {x} old b d = record {
    outcome = Some (record { end = j; height = 0; json = false; meaning = headed a x });
    halted = subst (λ o. Halts t e ws (Leaf n a p) o) (plain_made a j x) (halts_plain s m b d);
    noted = refl;
  }

  -- of another node
  other_to : {j : ℕ} {ds : List CommentValue} (old : Option ℕ) → begins_plain (code t p) ≡ false → Chosen (MayEnd t ws f.end) j ds → HaltNoted t e ws (Leaf n a p) old (Some j)
  other_to {j} {ds} old b d = record {
    outcome = Some (record { end = j; height = f.height; json = false; meaning = headed a (noting f.meaning ds) });
    halted = subst (λ o. Halts t e ws (Leaf n a p) o) (leaf_made a j f.height f.meaning ds) (halts_content s m b r d);
    noted = refl;
  }

  -- all may end after the whole leaf
  pub leaf_to : {j : ℕ} {ds : List CommentValue} {plain : Option ℕ} (old : Option ℕ) → PlainIs t p f.end plain → Chosen (MayEnd t ws f.end) j ds → HaltNoted t e ws (Leaf n a p) old (Some j)
  leaf_to old (plain_known b q) d = plain_to old b (whole_plain u (plain_was_read b r refl).chosen d)
  leaf_to old (other_known b q) d = other_to old b d

  -- they may not, but perhaps before its last line
  pub leaf_before : {old plain new : Option ℕ} → PlainIs t p f.end plain → Stuck (MayEnd t ws f.end) → ShorterNoted t f.end old plain new → HaltNoted t e ws (Leaf n a p) old new
  leaf_before {old} (plain_known b q) d (shorter_noted {start = i} {p = k} l) =
      plain_to old b (plain_without_last u (plain_was_read b r refl).chosen d (last_line_of (subst (λ (z : ℕ). LastStart t z f.end k) (sym (same_plain q)) l))).best
  leaf_before {old} (plain_known b q) d (one_line {start = i} l) = record {
    outcome = None;
    halted = halts_plain_missed s m b (plain_one_line u (plain_was_read b r refl).chosen d (no_last_line (subst (λ (z : ℕ). NoStart t z f.end) (sym (same_plain q)) l)));
    noted = refl;
  }
  leaf_before (plain_known b q) d no_plain = absurd (none_some q)
  leaf_before (other_known b q) d (shorter_noted {start = i} {p = k} l) = absurd (q i refl l.begins k l.later l.ended l.earlier)
  leaf_before (other_known b q) d (one_line l) = record { outcome = None; halted = halts_content_unended s m b r d; noted = refl }
  leaf_before (other_known b q) d no_plain = record { outcome = None; halted = halts_content_unended s m b r d; noted = refl }

-- the outermost node's last halt ends at the noted offset
pub noted_round : (ls : List Layer) (cs : List CommentValue) (h o : Option ParsedNode) {old new : Option ℕ} → old ≡ halt_end h → new ≡ noted_end old o → new ≡ halt_end (made_or (λ g. rounds ls (as_after cs g)) h o)
unfolding made_or
noted_round ls cs h None e q = q ∙ e
noted_round ls cs h (Some f) e q = q ∙ ap (λ (k : ℕ). Some k) (sym (rounds_end ls (as_after cs f)))

-- a node with the comments after it
noted_events : (x : Meaning) (z : Ahead) (ds : List CommentValue) → (headed z (noting x ds)).events ≡ (headed z x).events
unfolding headed noting meaning_after with_props
noted_events x Nothing ds = refl
noted_events x (Indicator i) ds = refl
noted_events x (Props h) ds = refl

after_events : (cs : List CommentValue) (x : Meaning) → (meaning_after cs x).events ≡ x.events
unfolding meaning_after
after_events cs x = refl

after_escapes : (cs : List CommentValue) (x : Meaning) → (meaning_after cs x).escapes ≡ x.escapes
unfolding meaning_after
after_escapes cs x = refl

pub noting_escapes : (x : Meaning) (ds : List CommentValue) → (noting x ds).escapes ≡ x.escapes
unfolding noting
noting_escapes x ds = refl

pub noting_finish : (x : Meaning) (ds : List CommentValue) → (noting x ds).finish ≡ x.finish
unfolding noting
noting_finish x ds = refl

pub after_finish : (cs : List CommentValue) (x : Meaning) → (meaning_after cs x).finish ≡ x.finish
unfolding meaning_after
after_finish cs x = refl

-- the comments of a leaf after it
told_comments : (o : Option ℕ) (cs : List CommentValue) (z : Ahead) (x : Meaning) (ds : List CommentValue) → (begins o (meaning_after cs (headed z x))).comments ++ ds ≡ (begins o (meaning_after cs (headed z (noting x ds)))).comments
told_comments o cs z x ds =
    ap (λ y. y ++ ds) (begins_comments o (meaning_after cs (headed z x)) ∙ after_comments cs (headed z x) ∙ ap (λ y. cs ++ y) (headed_comments x z))
    ∙ append_assoc cs (ahead_comments z ++ x.comments) ds ∙ ap (λ y. cs ++ y) (append_assoc (ahead_comments z) x.comments ds ∙ ap (λ y. ahead_comments z ++ y) (sym (noting_comments x ds)) ∙ sym (headed_comments (noting x ds) z))
    ∙ sym (begins_comments o (meaning_after cs (headed z (noting x ds))) ∙ after_comments cs (headed z (noting x ds)))

told_escapes : (o : Option ℕ) (cs : List CommentValue) (z : Ahead) (x : Meaning) (ds : List CommentValue) → (begins o (meaning_after cs (headed z x))).escapes ≡ (begins o (meaning_after cs (headed z (noting x ds)))).escapes
told_escapes o cs z x ds =
    begins_escapes o (meaning_after cs (headed z x)) ∙ after_escapes cs (headed z x) ∙ headed_escapes x z ∙ sym (noting_escapes x ds) ∙ sym (headed_escapes (noting x ds) z)
    ∙ sym (begins_escapes o (meaning_after cs (headed z (noting x ds))) ∙ after_escapes cs (headed z (noting x ds)))

told_same : (w : Meaning) (o : Option ℕ) (cs : List CommentValue) (z : Ahead) (x : Meaning) (ds : List CommentValue)
    → Same ((w ⊕ begins o (meaning_after cs (headed z x))) ⊕ only ds 0) (w ⊕ begins o (meaning_after cs (headed z (noting x ds))))
unfolding ◌⊕◌ only
told_same w o cs z x ds = record {
  events = append-nil (w.events ++ (begins o (meaning_after cs (headed z x))).events)
      ∙ ap (λ y. w.events ++ y) (begins_same o (meaning_after cs (headed z x)) (meaning_after cs (headed z (noting x ds))) (after_events cs (headed z x) ∙ sym (noted_events x z ds) ∙ sym (after_events cs (headed z (noting x ds)))));
  comments = append_assoc w.comments (begins o (meaning_after cs (headed z x))).comments ds ∙ ap (λ y. w.comments ++ y) (told_comments o cs z x ds);
  escapes = append-nil (w.escapes ++ (begins o (meaning_after cs (headed z x))).escapes) ∙ ap (λ y. w.escapes ++ y) (told_escapes o cs z x ds);
}

module _ {t : List ℕ} {before old new : Part} {progress : BlockCursor} (w : Meaning) (o : Option ℕ) (cs : List CommentValue) (z : Ahead) (x : Meaning) (ds : List CommentValue)
    (r : ReadTied t before (w ⊕ begins o (meaning_after cs (headed z x))) progress old) where
  pub leaf_told : new.events ≡ old.events → new.comments ≡ old.comments ++ ds → new.escapes ≡ old.escapes → ReadTied t before (w ⊕ begins o (meaning_after cs (headed z (noting x ds)))) progress new
  unfolding only
  leaf_told a b c =
      read_as (read_added r {new = new} {fs = []} {cs = ds} {bad = []} (only ds 0) no_event refl
      (record { events = a ∙ sym (append-nil old.events); comments = b; escapes = c ∙ sym (append-nil old.escapes) }) refl refl) (told_same w o cs z x ds)

module _ {t : List ℕ} {d : ℕ} {root : BlockTask} {before old : Part} {frames : List Frame} {plain : Option ℕ} {p : ℕ} {progress : BlockCursor} (l : AtLeaf t d root before frames plain p progress old) where
  utf8 : IsUtf8 t
  utf8 = l.read.text.utf8

  inside : LineStart t p → ⊥
  inside = λ s. no_start_past utf8 (node_next utf8 (found_is_derived refl l.parsed).0) (subst (λ (z : ℕ). LineStart t z) (sym l.end) s)

  abbrev task : BlockTask
  task = Leaf l.indentation l.ahead l.place

  known : PlainIs t l.place l.answer.end plain
  known = subst (λ (z : ℕ). PlainIs t l.place z plain) (sym l.end) l.known

  -- the offset noted when the line ends
  node_halt : {k : ℕ} {ds : List CommentValue} {new : Option ℕ} → Chosen (LineEnd t p) k ds → NodeNoted t plain p k frames progress.halt new → HaltNoted t l.room (asked l.layers) task progress.halt new
  node_halt {k} {ds} e n = go (subst (λ (z : ℕ). Chosen (LineEnd t z) k ds) (sym l.end) e) n where
    start : LineStart t l.answer.end → ⊥
    start s = inside (subst (λ (z : ℕ). LineStart t z) l.end s)

    go : {new : Option ℕ} → Chosen (LineEnd t l.answer.end) k ds → NodeNoted t plain p k frames progress.halt new → HaltNoted t l.room (asked l.layers) task progress.halt new
    go y (node_noted f) = leaf_to utf8 l.no_scalar l.may l.parsed progress.halt known (may_end_at utf8 l.stack.frames_tied l.stack.order y f)
    go y (node_before {p = q} c s) =
        leaf_to utf8 l.no_scalar l.may l.parsed progress.halt known (may_end_before utf8 l.stack.frames_tied l.stack.order y start c (subst (λ (z : ℕ). LastStart t z k q) (sym l.end) s)).best
    go {new} y (node_shorter c s r) =
        leaf_before utf8 l.no_scalar l.may l.parsed known (may_end_nowhere utf8 l.stack.frames_tied l.stack.order y start c (subst (λ (z : ℕ). NoStart t z k) (sym l.end) s))
        (subst (λ (z : ℕ). ShorterNoted t z progress.halt plain new) (sym l.end) r)

  -- the node is read whole
  pub leaf_was_read : {k : ℕ} {ds : List CommentValue} {new : BlockCursor} {part : Part} → Chosen (LineEnd t p) k ds → NodeNoted t plain p k frames progress.halt new.halt
      → part.events ≡ old.events → part.comments ≡ old.comments ++ ds → part.escapes ≡ old.escapes → new.last ≡ progress.last → new.floor ≡ progress.floor → new.colons ≡ progress.colons
      → AtResume t d root before frames k new part
  leaf_was_read {k} {ds} {new} e n a b c i fl y =
      let h = node_halt e n in
      let far = line_end_forward e.derived in
      let past = l.past in
      let line = subst (λ (z : ℕ). Chosen (LineEnd t z) k ds) (sym l.end) e in
      let f : ParsedNode = record { end = k; height = l.answer.height; json = false; meaning = headed l.ahead (noting l.answer.meaning ds) } in
      let whole = subst (λ o. Whole t l.room task o) (leaf_made l.ahead k l.answer.height l.answer.meaning ds) (leaf_read l.no_scalar l.may l.parsed line) in
      record {
        layers = l.layers;
        room = l.room;
        answer = as_after l.comments f;
        halt = made_or (λ g. rounds l.layers (as_after l.comments g)) l.halt h.outcome;
        node = node_was_read l.node whole h.halted;
        outside = outside_end utf8 e.derived;
        past = omega (arith, past, far, fl);
        last = i ∙ l.last ∙ sym (noting_finish l.answer.meaning ds) ∙ sym (headed_finish (noting l.answer.meaning ds) l.ahead) ∙ sym (after_finish l.comments (headed l.ahead (noting l.answer.meaning ds)));
        stack = record {
          order = l.stack.order;
          frames_tied = l.stack.frames_tied;
          colons = y ∙ l.stack.colons;
          halted = noted_round l.layers l.comments l.halt h.outcome l.stack.halted h.noted;
        };
        read = read_moved (leaf_told (all_written l.layers) (layers_entry l.layers) l.comments l.ahead l.answer.meaning ds l.read a b c) fl;
      }

  -- the line goes on, and all nodes break
  pub leaf_breaks : {new : BlockCursor} → Stuck (LineEnd t p) → ShorterNoted t p progress.halt plain new.halt → AtFailed t d root new
  leaf_breaks {new} e r =
      let e' : Stuck (LineEnd t l.answer.end) = subst (λ (z : ℕ). Stuck (LineEnd t z)) (sym l.end) e in
      let stuck : Stuck (MayEnd t (asked l.layers) l.answer.end) = record { none = λ j x m. e'.none j x m.line } in
      let h = leaf_before utf8 l.no_scalar l.may l.parsed known stuck (subst (λ (z : ℕ). ShorterNoted t z progress.halt plain new.halt) (sym l.end) r) in
      broken_fails (node_breaks l.node (leaf_unended l.no_scalar l.may l.parsed e') h.halted) (noted_round l.layers l.comments l.halt h.outcome l.stack.halted h.noted)

-- if no line begins within a node, nothing is noted of it
still_noted : {t : List ℕ} {p : ℕ} {old plain new : Option ℕ} → ((q : ℕ) → plain ≡ Some q → NoStart t q p) → ShorterNoted t p old plain new → new ≡ old
still_noted n (shorter_noted {start = i} {p = k} l) = absurd (n i refl l.begins k l.later l.ended l.earlier)
still_noted n (one_line l) = refl
still_noted n no_plain = refl

module _ {t : List ℕ} {d : ℕ} {root : BlockTask} {before old : Part} {frames : List Frame} {plain : Option ℕ} {p : ℕ} {progress : BlockCursor} where
  pub leaf_finishes : {k : ℕ} {ds : List CommentValue} {new : BlockCursor} {part : Part} → LeafEnding plain t d root before frames p progress old → Chosen (LineEnd t p) k ds
      → (NotWithinBreak t k → ColonsCounted progress.colons frames → NodeNoted t plain p k frames progress.halt new.halt) → part.events ≡ old.events → part.comments ≡ old.comments ++ ds → part.escapes ≡ old.escapes
      → new.last ≡ progress.last → new.floor ≡ progress.floor → new.colons ≡ progress.colons → AtResume t d root before frames k new part
  leaf_finishes (leaf_ends l) e n a b c i fl y = leaf_was_read l e (n (outside_end l.read.text.utf8 e.derived) (colons_counted l.stack)) a b c i fl y
  leaf_finishes {k = k} {ds = ds} (line_goes_on s q f) e n a b c i fl y = absurd (s.none k ds e.derived)

  pub leaf_stops : {new : BlockCursor} → LeafEnding plain t d root before frames p progress old → Stuck (LineEnd t p) → ShorterNoted t p progress.halt plain new.halt → AtFailed t d root new
  leaf_stops (leaf_ends l) e r = leaf_breaks l e r
  leaf_stops (line_goes_on s q f) e r = record { halt = f.halt; unfinished = f.unfinished; halts = f.halts; halted = still_noted q r ∙ f.halted }
