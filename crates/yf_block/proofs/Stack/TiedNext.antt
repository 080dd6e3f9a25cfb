-- The next key of the innermost mapping, with the mapping's frame kept on the stack.
use Rattle.std.proofs.Common.{◌≡◌, ◌≢◌, ℕ, ◌-◌, ◌<◌, ◌≤◌, Bool, false, List, ◌∷◌, ◌++◌, Option, None, length, sym, ap, ◌∙◌, subst, arith, append-nil, true≢false, refl}
use Rattle.yf_chars.specs.Text.{code}
use Rattle.yf_comments.specs.Comments.{Blank}
use Rattle.yf_events.specs.declared.event.Entry as TheEntry
use Rattle.yf_events.specs.declared.part.Part.{Part}
use Rattle.yf_grammar.specs.Productions.ReadParts.{NotedSince}
use Rattle.yf_grammar.specs.BlockReader.BlockParser.{BlockTask, SignAt}
use Rattle.yf_block.specs.declared.frame.Frame.{Frame}
use Rattle.yf_block.specs.declared.frame.BlockCursor.{BlockCursor}
use Rattle.yf_block.specs.BlockStepTied.{AtResume, AtTop, AtEntry}
use Rattle.yf_block.specs.BlockTied.{colons_if}
use Rattle.yf_block.specs.CollectionEnds.{value_missing}
use Rattle.yf_block.specs.LineFits.{PlaceTied}
use Rattle.yf_block.specs.KeyAwaited.{KeyAwaited}
use Rattle.yf_block.specs.NextItems.{ItemBelow}
use Rattle.yf_block.specs.NextKeys.{KeyBelow}
use Rattle.yf_block.proofs.Ends.FitLemmas.{fits_item, fits_pair}
use Rattle.yf_block.proofs.Stack.TiedEntries.{item_follows_top, pair_follows_top}
use Rattle.yf_block.proofs.Stack.TiedResume.{top_of}

none_awaited : (n : ℕ) (b : Bool) → b ≡ false → n ≡ n - colons_if b
none_awaited n b e = let q : colons_if b ≡ 0 = ap colons_if e in omega (arith, q)

settled_same : (f : Frame) → f.awaits_colon ≡ false → f ≡ record f { awaits_colon = false }
settled_same f e = ap (λ b. record f { awaits_colon = b }) e

module _ {t : List ℕ} {d : ℕ} {root : BlockTask} {before part : Part} {frames : List Frame} {at p : ℕ} {place : Option ℕ} {progress : BlockCursor}
    (a : AtResume t d root before frames at progress part) (b : KeyBelow t at place frames p) (m : PlaceTied t at place) (o : at ≤ p) (w : p ≤ length t) where
  next_top : AtTop t d root before b.top.outer at b.top.frame progress part
  next_top = top_of a b.top.stack (none_awaited progress.colons b.top.frame.awaits_colon b.top.settled) refl refl refl

  next_there : AtEntry t d root before b.top.outer b.top.frame p progress part
  next_there = pair_follows_top next_top w (fits_pair b.top.frame (subst (λ z. PlaceTied t at z) b.starts m) b.top.column_is b.top.mapping)
      (λ q s. absurd (true≢false (sym q ∙ b.top.settled)))
      (sym (append-nil part.events) ∙ ap (λ v. part.events ++ value_missing v) (sym b.top.settled)) refl refl

  -- its entry has been begun
  pub next_key : (entry : TheEntry.Entry) → entry.start ≡ p → entry.colon ≡ None
      → ((code t p ≡ 10 → code t (p - 1) ≢ 13) → (progress.floor < p → Blank t progress.floor) → NotedSince t progress.floor p entry.blank_before)
      → KeyAwaited (p - at) entry t d root before frames entry.start progress part
  next_key entry s c n =
      let e = next_there in
      let there = e.there in
      record {
        outer = b.top.outer;
        frame = b.top.frame;
        at = subst (λ (z : ℕ). AtEntry t d root before b.top.outer b.top.frame z progress part) (sym s) e;
        mapping = b.top.mapping;
        stack = b.top.stack ∙ ap (λ f. f ∷ b.top.outer) (settled_same b.top.frame b.top.settled);
        column_there = b.top.column_is;
        note = subst (λ (z : ℕ). NotedSince t progress.floor z entry.blank_before) (sym s) (n e.outside.apart (λ l. e.read.floor_line (omega (arith, there, l))));
        no_colon_yet = c;
        no_question = λ v. b.no_question (subst (λ (z : ℕ). SignAt t 63 z) s v);
        no_colon = λ v. b.no_colon (subst (λ (z : ℕ). SignAt t 58 z) s v);
      }

-- and the next item of the innermost sequence
module _ {t : List ℕ} {d : ℕ} {root : BlockTask} {before part : Part} {frames : List Frame} {at p : ℕ} {place : Option ℕ} {progress : BlockCursor}
    (a : AtResume t d root before frames at progress part) (b : ItemBelow t at place frames p) (m : PlaceTied t at place) where
  item_top : AtTop t d root before b.top.outer at b.top.frame progress part
  item_top = top_of a b.top.stack (none_awaited progress.colons b.top.frame.awaits_colon b.top.settled) refl refl refl

  pub next_item : AtEntry t d root before b.top.outer b.top.frame p progress part
  next_item = item_follows_top item_top (fits_item b.top.frame (subst (λ z. PlaceTied t at z) b.starts m) b.top.column_is b.top.sequence b.dash) b.top.settled
