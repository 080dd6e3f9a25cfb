-- The end of a line before an awaited node: its comments, and the line after it.
use Rattle.std.proofs.Common.{◌≡◌, ℕ, Bool, true, false, List, [], ◌++◌, refl, sym, ap, ◌∙◌, subst, append_assoc, append-nil}
use Rattle.yf_chars.specs.Chain.{Chosen}
use Rattle.yf_comments.specs.Comment.{CommentValue}
use Rattle.yf_comments.specs.Comments.{LineEnd}
use Rattle.yf_events.specs.declared.part.Part.{Part}
use Rattle.yf_grammar.specs.Productions.Meaning.{◌⊕◌}
use Rattle.yf_grammar.specs.Productions.ReadParts.Noting.{no_event}
use Rattle.yf_grammar.specs.FlowReader.Parser.{only}
use Rattle.yf_grammar.specs.BlockReader.BlockParser.{BlockTask}
use Rattle.yf_grammar.specs.BlockReader.BlockStack.{Layer}
use Rattle.yf_block.specs.declared.frame.Frame.{Frame}
use Rattle.yf_block.specs.declared.frame.BlockCursor.{BlockCursor}
use Rattle.yf_block.specs.BlockTied.{ahead_comments, all_written, ReadTied}
use Rattle.yf_block.specs.BlockStepTied.{AtLine}
use Rattle.yf_block.specs.LineTied.{AtBelow}
use Rattle.yf_block.proofs.Stack.TiedLeads.{read_added}
use Rattle.yf_block.proofs.Stack.TiedReads.{read_as, read_moved}
use Rattle.yf_grammar.proofs.FlowReader.ParserLemmas.{Same}

-- comments are read
told_same : (ls : List Layer) (xs ys ds : List CommentValue) → Same ((all_written ls ⊕ only (xs ++ ys) 0) ⊕ only ds 0) (all_written ls ⊕ only (xs ++ (ys ++ ds)) 0)
unfolding ◌⊕◌ only
told_same ls xs ys ds = record {
  events = append-nil ((all_written ls).events ++ []);
  comments = append_assoc (all_written ls).comments (xs ++ ys) ds ∙ ap (λ z. (all_written ls).comments ++ z) (append_assoc xs ys ds);
  escapes = append-nil ((all_written ls).escapes ++ []);
}

module _ {t : List ℕ} {before old new : Part} {progress : BlockCursor} (ls : List Layer) (xs ys : List CommentValue) (ds : List CommentValue)
    (r : ReadTied t before (all_written ls ⊕ only (xs ++ ys) 0) progress old) where
  told_read : new.events ≡ old.events → new.comments ≡ old.comments ++ ds → new.escapes ≡ old.escapes → ReadTied t before (all_written ls ⊕ only (xs ++ (ys ++ ds)) 0) progress new
  unfolding only
  told_read x y z =
      read_as (read_added r {new = new} {fs = []} {cs = ds} {bad = []} (only ds 0) no_event refl
      (record { events = x ∙ sym (append-nil old.events); comments = y; escapes = z ∙ sym (append-nil old.escapes) }) refl refl) (told_same ls xs ys ds)

module _ {t : List ℕ} {d : ℕ} {root : BlockTask} {before : Part} {frames : List Frame} {at : ℕ} {old : BlockCursor} {part : Part} where
  -- a line begins, before anything was read or after the end of another line
  pub line_ended : {new : BlockCursor} {p : ℕ} {told : List CommentValue} {part' : Part} (b : Bool) → (b ≡ true → p ≡ at) → (b ≡ false → p ≡ at → ⊥)
      → AtBelow t d root before frames at old part → Chosen (LineEnd t at) p told
      → part'.events ≡ part.events → part'.comments ≡ part.comments ++ told → part'.escapes ≡ part.escapes → new ≡ record old { from = at; first = b }
      → AtLine t d root before frames p new part'
  line_ended {new} {p} {told} {part'} b f g a l x y z e = subst (λ n. AtLine t d root before frames p n part') (sym e) (record {
    layers = a.layers;
    room = a.room;
    comments = a.comments;
    indentation = a.indentation;
    context = a.context;
    ahead = a.ahead;
    told = told;
    halt = a.halt;
    node = a.node p told l;
    line = l;
    started = a.started;
    first = λ h. sym (f h);
    not_first = λ h k. absurd (g h (sym k));
    past = a.past;
    wanted = record {
      least = a.wanted.least;
      out = a.wanted.out;
      outer = a.wanted.outer;
      entry = a.wanted.entry;
      within = a.wanted.within;
      nested = a.wanted.nested;
      rooted = a.wanted.rooted;
      narrow = a.wanted.narrow;
    };
    last = a.last;
    stack = record { order = a.stack.order; frames_tied = a.stack.frames_tied; colons = a.stack.colons; halted = a.stack.halted };
    read = told_read a.layers a.comments (ahead_comments a.ahead) told (read_moved a.read refl) x y z;
  })
