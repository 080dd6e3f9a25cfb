-- The comments of a reading are in order, each on one line. So the pass finds which of them are on the lines of leaves.
use Rattle.std.proofs.Common.{◌≡◌, ℕ, ◌-◌, ◌≤◌, true, List, ◌∷◌, drop, length, refl, sym, ap, ◌∙◌, subst, arith, length-take}
use Rattle.std.proofs.lemmas.List.Elements.{All-weaker}
use Rattle.std.specs.Str.{IsUtf8}
use Rattle.yf_chars.specs.Chain.{Many}
use Rattle.yf_chars.specs.Chain.Chain.{step}
use Rattle.yf_chars.specs.Chain.One.{one}
use Rattle.yf_chars.specs.Class.{is_between, is_break_char, is_nb_char, is_printable}
use Rattle.yf_chars.specs.Text.{code}
use Rattle.yf_chars.proofs.TextLemmas.{next_ascii}
use Rattle.yf_block_scalar.proofs.LinesMade.{unbroken_nb}
use Rattle.yf_comments.specs.Comment.{CommentValue}
use Rattle.yf_events.specs.declared.lists.Lists.{Lists}
use Rattle.yf_grammar.proofs.Documents.CommentOrder.{Ascend, no_more, one_more}
use Rattle.yf_stream.proofs.CommentLaws.{IsCommentAt}
use Rattle.yf_stream.specs.LeafPass.{BeginInOrder, CommentsInOrder, AreInOrder, IsInLine, comment_is_at, no_comments}
use Rattle.yf_stream.specs.ReadingOf.{ReadingOf}
use Rattle.yf_stream.proofs.Offsets.CommentTexts.{comments_of_readings_are_texts}
use Rattle.yf_stream.proofs.Offsets.EventsInOrder.{events_in_order}
use Rattle.yf_stream.proofs.Offsets.ReadingOrder.{reading_ascends}
use Rattle.yf_stream.proofs.Offsets.ReadingTrees.{reading_is_at}
use Rattle.yf_chars.proofs.CharFacts.{hash_nb}

comments_after : {i j : ℕ} {cs : List CommentValue} → i ≤ j → CommentsInOrder j cs → CommentsInOrder i cs
comments_after l no_comments = no_comments
comments_after l (comment_is_at m a) = comment_is_at (omega arith) a

comments_stand : {t : List ℕ} {i j : ℕ} {cs : List CommentValue} → Ascend t i cs j → CommentsInOrder i cs
comments_stand (no_more l) = no_comments
comments_stand (one_more l s a) = comment_is_at l (comments_after (omega arith) (comments_stand a))

is_in_line : {t : List ℕ} {c : CommentValue} → IsUtf8 t → IsCommentAt t c → IsInLine t c
is_in_line {t} {c} u s =
    let i = c.offset in
    let next = next_ascii t i (let e = s.sign in omega arith) in
    let all : Many t is_nb_char i s.end (code t i ∷ s.characters) =
    step (one (ap is_nb_char s.sign ∙ hash_nb)) (subst (λ z. Many t is_nb_char z s.end s.characters) (sym next) s.chain) in
    let whole = unbroken_nb u all in
    record {
      sign = s.sign;
      unbroken = record {
        order = omega arith;
        none = λ h l m. whole.none h l (omega (arith, length-take (s.end - i) (drop i t), ap length s.text));
      };
    }

pub stand_in_order : {t : List ℕ} {r : Lists} → IsUtf8 t → ReadingOf t r → AreInOrder t r.events r.comments
stand_in_order {t} {r} u a =
    let s = reading_is_at u a in
    record {
      events = subst (λ z. BeginInOrder 0 z) (sym s.of_reading.events) (events_in_order s.stand);
      comments = comments_stand (reading_ascends a);
      texts = All-weaker (IsCommentAt t) (IsInLine t) (λ c s. is_in_line u s) r.comments (comments_of_readings_are_texts t r a);
    }
