-- A block scalar that is written among other lines is a node, with its content and the comments in it and after it.
use Rattle.std.proofs.Common.{◌≡◌, ℕ, ℤ, ◌+◌, false, List, [], ◌∷◌, None, refl, ap, ◌∙◌}
use Rattle.yf_lines.specs.Rest.{Rest}
use Rattle.yf_comments.proofs.GapLinesLemmas.{texts, texts_append}
use Rattle.yf_block_scalar.specs.declared.header.Header.{Header}
use Rattle.yf_block_scalar.specs.declared.header.Chomp.{Chomp}
use Rattle.yf_block_scalar.specs.declared.header.Chomp.TheVariants.{Strip, Clip, Keep}
use Rattle.yf_block_scalar.specs.Content.{content_of}
use Rattle.yf_block_scalar.proofs.LinesMade.{LinesTo}
use Rattle.yf_block_scalar.proofs.PlacedScalar.{PlacedAt}
use Rattle.yf_props.specs.Props.{no_props}
use Rattle.yf_events.specs.Event.{EventInText, scalar_node}
use Rattle.yf_events.specs.declared.event.ScalarStyle.{ScalarStyle}
use Rattle.yf_grammar.specs.Productions.BlockScalar.{BlockScalar, LinesBetween, style_of, kept_lines, reach}
use Rattle.yf_grammar.specs.Productions.BlockScalar.BlockScalar.{block_scalar}
use Rattle.yf_grammar.specs.Productions.BlockScalar.LinesBetween.{counted}
use Rattle.yf_grammar.specs.Productions.Meaning.{Meaning, from_to}

-- the event of a scalar with a header, lines and a number of line feeds after them, from one offset to another
abbrev pub scalar_event : Header → List (List ℕ) → ℕ → ℕ → ℕ → EventInText
scalar_event h ls count i j = record {
  event = scalar_node no_props (style_of h.folded) (content_of h ls count false);
  span = from_to i j;
  tag_offset = None;
  entry = None;
  folded = kept_lines h.folded ls;
}

pub record ScalarNode (t : List ℕ) (n : ℤ) (h : Header) (ls : List (List ℕ)) (count : ℕ) (comments : List (List ℕ)) (q : ℕ) (r : List ℕ) : Type 0 where
  pub place : ℕ
  pub meaning : Meaning
  pub derived : BlockScalar t n q place meaning
  pub events : meaning.events ≡ scalar_event h ls count q meaning.finish ∷ []
  pub escapes : meaning.escapes ≡ []
  pub is : texts meaning.comments ≡ comments
  pub rest : Rest t place r

abbrev event_of : ScalarStyle → List ℕ → List (List ℕ) → ℕ → ℕ → EventInText
event_of style text lines i j = record { event = scalar_node no_props style text; span = from_to i j; tag_offset = None; entry = None; folded = lines }

-- its reach, from its sign
pub record Reaching (t : List ℕ) (c : Chomp) (lines tail i : ℕ) : Type 0 where
  pub end : ℕ
  pub between : LinesBetween t (reach c lines tail) i end

pub reaching : {t : List ℕ} {lines tail i finish last : ℕ} (c : Chomp) → LinesTo t i finish lines → LinesTo t i last (lines + tail) → Reaching t c lines tail i
reaching Strip a b = record { end = _; between = counted a.chain a.counts }
reaching Clip a b = record { end = _; between = counted a.chain a.counts }
reaching Keep a b = record { end = _; between = counted b.chain b.counts }

pub scalar_placed : {t : List ℕ} {n : ℤ} {h : Header} {ls : List (List ℕ)} {count : ℕ} {comments : List (List ℕ)} {q : ℕ} {r : List ℕ}
    → PlacedAt t n h ls count comments q r → ScalarNode t n h ls count comments q r
scalar_placed {t} {n} {h} {ls} {count} {comments} {q} {r} a =
    let to = reaching a.header.header.chomp a.to_finish a.to_last in
    record {
      place = a.place;
      meaning = _;
      derived = block_scalar a.head a.rest to.between;
      events = ap (λ x. event_of (style_of a.header.header.folded) x (kept_lines a.header.header.folded a.body.lines) q to.end ∷ []) a.content
          ∙ ap (λ x. event_of (style_of x) (content_of h ls count false) (kept_lines x a.body.lines) q to.end ∷ []) a.folded
          ∙ ap (λ x. event_of (style_of h.folded) (content_of h ls count false) (kept_lines h.folded x) q to.end ∷ []) a.lines;
      escapes = refl;
      is = texts_append a.header.comments a.body.comments ∙ a.is;
      rest = a.follows;
    }
