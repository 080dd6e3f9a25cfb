-- The events read so far, in another form, and with one event more.
use Rattle.std.proofs.Common.{◌≡◌, ℕ, ◌+◌, ◌<◌, List, [], ◌++◌, length, sym, ap, ◌∙◌, subst, append_assoc, append-nil}
use Rattle.std.proofs.lemmas.List.{length-append}
use Rattle.yf_comments.specs.Comments.{Blank}
use Rattle.yf_events.specs.Event.{EventInText}
use Rattle.yf_events.specs.declared.part.Part.{Part}
use Rattle.yf_grammar.specs.Productions.Meaning.{Meaning, ◌⊕◌}
use Rattle.yf_grammar.specs.Productions.ReadParts.{Noting}
use Rattle.yf_grammar.specs.FlowReader.Parser.{only}
use Rattle.yf_grammar.proofs.FlowReader.ParserLemmas.{Same}
use Rattle.yf_block.specs.declared.frame.BlockCursor.{BlockCursor}
use Rattle.yf_block.specs.BlockTied.{floor_after, ReadTied}
use Rattle.yf_block.proofs.Ends.NotingLemmas.{floor_more, noting_length, noting_more}

pub joined_lists : {X : Type 0} (a k s i g : List X) → s ++ i ≡ g → ((a ++ k) ++ s) ++ i ≡ a ++ (k ++ g)
joined_lists a k s i g q = append_assoc (a ++ k) s i ∙ ap (λ y. (a ++ k) ++ y) q ∙ append_assoc a k g

pub nothing_more : (x : Meaning) → Same x (x ⊕ only [] 0)
unfolding ◌⊕◌ only
nothing_more x = record { events = sym (append-nil x.events); comments = sym (append-nil x.comments); escapes = sym (append-nil x.escapes) }

pub same_then : {x y z : Meaning} → Same x y → Same y z → Same x z
same_then a b = record { events = a.events ∙ b.events; comments = a.comments ∙ b.comments; escapes = a.escapes ∙ b.escapes }

module _ {t : List ℕ} {before : Part} {x : Meaning} {progress : BlockCursor} {old : Part} (r : ReadTied t before x progress old) where
  pub read_as : {y : Meaning} → Same x y → ReadTied t before y progress old
  read_as e = record {
    text = r.text;
    floor = r.floor ∙ ap (λ z. floor_after 0 z) e.events;
    floor_line = r.floor_line;
    written = record {
      events = r.written.events;
      noting = subst (λ z. Noting t 0 z r.written.events) e.events r.written.noting;
      added = record {
        events = r.written.added.events;
        comments = r.written.added.comments ∙ ap (λ z. before.comments ++ z) e.comments;
        escapes = r.written.added.escapes ∙ ap (λ z. before.escapes ++ z) e.escapes;
      };
    };
  }

  -- the other fields of the state don't change the events
  pub read_moved : {new : BlockCursor} → new.floor ≡ progress.floor → ReadTied t before x new old
  read_moved e = record {
    text = r.text;
    floor = e ∙ r.floor;
    floor_line = λ l. subst (λ f. Blank t f) (sym e) (r.floor_line (subst (λ f. f < length t) e l));
    written = r.written;
  }

  pub count_read : length old.events ≡ length before.events + length x.events
  count_read = ap (λ z. length z) r.written.added.events ∙ length-append before.events r.written.events ∙ ap (λ (k : ℕ). length before.events + k) (sym (noting_length r.written.noting))

  -- events are added, and none of them ends a block scalar
  pub read_events : {new : Part} (es fs : List EventInText) → Noting t progress.floor es fs → floor_after progress.floor es ≡ progress.floor → new.events ≡ old.events ++ fs → new.comments ≡ old.comments
      → new.escapes ≡ old.escapes → {y : Meaning} → x.events ++ es ≡ y.events → x.comments ≡ y.comments → x.escapes ≡ y.escapes → ReadTied t before y progress new
  read_events es fs n k a b c {y} p q s = record {
    text = r.text;
    floor = sym k ∙ ap (λ (f : ℕ). floor_after f es) r.floor ∙ sym (floor_more 0 x.events es) ∙ ap (λ z. floor_after 0 z) p;
    floor_line = r.floor_line;
    written = record {
      events = r.written.events ++ fs;
      noting = subst (λ z. Noting t 0 z (r.written.events ++ fs)) p (noting_more r.written.noting (subst (λ f. Noting t f es fs) r.floor n));
      added = record {
        events = a ∙ ap (λ z. z ++ fs) r.written.added.events ∙ append_assoc before.events r.written.events fs;
        comments = b ∙ r.written.added.comments ∙ ap (λ z. before.comments ++ z) q;
        escapes = c ∙ r.written.added.escapes ∙ ap (λ z. before.escapes ++ z) s;
      };
    };
  }
