-- The part of a stream that has been read up to an offset. Each derivation of the rest of the text makes a stream with
-- it, and each derived stream has a path there. So at the end of the text this part is the text's one shape.
use Rattle.std.proofs.Common.{◌≡◌, ℕ, max, ◌+◌, ◌≤◌, Bool, true, false, inl, List, [], ◌∷◌, ◌++◌, length, refl, sym, ap, ◌∙◌, subst, arith, append_assoc, append-nil, true≢false}
use Rattle.std.specs.Str.{IsUtf8}
use Rattle.yf_chars.specs.Text.{code}
use Rattle.yf_chars.specs.Chain.{Stuck}
use Rattle.yf_lines.specs.Basic.{ForbiddenLine, is_three}
use Rattle.yf_lines.specs.Basic.LineStart.{at_text}
use Rattle.yf_lines.proofs.BasicLemmas.{no_marker, three_first}
use Rattle.yf_comments.specs.Comment.{CommentValue}
use Rattle.yf_comments.specs.Comments.{LineEnd, Row}
use Rattle.yf_events.specs.declared.reading.TheConstants.{DEPTH}
use Rattle.yf_grammar.proofs.BlockOutcomes.BlockEnds.{LineOrEnd}
use Rattle.yf_grammar.proofs.Ends.GapLemmas.{end_next}
use Rattle.yf_grammar.specs.Productions.Meaning.{Meaning}
use Rattle.yf_stream.specs.DocumentReaders.{PrefixRead}
use Rattle.yf_stream.specs.Stream.{AnyDocument, Document, Documents, ExplicitNode, Stream, document_of, only_comments, with_comments, with_document}
use Rattle.yf_stream.specs.Stream.StreamRest.{stream_ended}
use Rattle.yf_stream.specs.WellFormed.{Shapes}
use Rattle.yf_stream.proofs.Uniqueness.OneStream.{one_stream}
use Rattle.yf_stream.proofs.Reader.PathsThrough.{PathsThrough, paths_begin, paths_past_dots, paths_past_prefix}
use Rattle.yf_stream.proofs.Reader.PrefixLemmas.{rows_parts}
use Rattle.yf_stream.proofs.Uniqueness.StreamPath.{document_next, explicit_next, parts_next}
use Rattle.yf_stream.proofs.Reader.StreamSteps.{StreamFrom, as_rest, from_document, from_explicit, from_prefixes, from_suffix, stream_from_start}

-- documents and comments, and more of them
unfoldable pub followed : Documents → Documents → Documents
followed x y = record { documents = x.documents ++ y.documents; comments = x.comments ++ y.comments }

abbrev pub one_document : List CommentValue → Document → Documents
one_document cs d = record { documents = d ∷ []; comments = cs }

-- the flag means that a document without `---` or with directives may be there
pub record ReadUpto (t : List ℕ) (b : Bool) (k : ℕ) (x : Documents) : Type 0 where
  pub height : ℕ
  pub within : height ≤ DEPTH
  pub starts : LineOrEnd t k
  pub sound : (h : ℕ) (y : Documents) → StreamFrom t b h k y → Stream t (max height h) (followed x y)
  pub through : PathsThrough t b k

followed_comments : (x : Documents) (cs : List CommentValue) (y : Documents) → followed x (with_comments cs y) ≡ followed (followed x (only_comments cs)) y
unfolding followed with_comments
followed_comments x cs y =
    ap (λ z. record { documents = z ++ y.documents; comments = x.comments ++ (cs ++ y.comments) }) (sym (append-nil x.documents))
    ∙ ap (λ z. record { documents = (x.documents ++ []) ++ y.documents; comments = z }) (sym (append_assoc x.comments cs y.comments))

followed_document : (x : Documents) (cs : List CommentValue) (d : Document) (y : Documents) → followed x (with_document cs d y) ≡ followed (followed x (one_document cs d)) y
unfolding followed with_document
followed_document x cs d y =
    ap (λ z. record { documents = z; comments = x.comments ++ (cs ++ y.comments) }) (sym (append_assoc x.documents (d ∷ []) y.documents))
    ∙ ap (λ z. record { documents = (x.documents ++ d ∷ []) ++ y.documents; comments = z }) (sym (append_assoc x.comments cs y.comments))

followed_nothing : (x : Documents) → followed x (only_comments []) ≡ x
unfolding followed
followed_nothing x =
    ap (λ z. record { documents = z; comments = x.comments ++ [] }) (append-nil x.documents)
    ∙ ap (λ z. record { documents = x.documents; comments = z }) (append-nil x.comments)

nothing_followed : (x : Documents) → x ≡ followed (only_comments []) x
unfolding followed
nothing_followed x = refl

least_zero : (h : ℕ) → h ≡ max 0 h
least_zero h = omega arith

thrice : (h g i : ℕ) → max h (max g i) ≡ max (max h g) i
thrice h g i = omega arith

zero_last : (h : ℕ) → max h 0 ≡ h
zero_last h = omega arith

-- the three signs of a marker
pub three_dots : (t : List ℕ) (k : ℕ) → ForbiddenLine t k → code t k ≡ 46 → is_three t k 46 ≡ true
three_dots t k f e = go (is_three t k 46) refl where
  go : (b : Bool) → is_three t k 46 ≡ b → is_three t k 46 ≡ true
  go true q = q
  go false q = absurd (true≢false (sym f.marker ∙ no_marker t k (three_first t k 45 (λ r. absurd (omega arith))) q))

pub three_dashes : (t : List ℕ) (k : ℕ) → ForbiddenLine t k → code t k ≡ 45 → is_three t k 45 ≡ true
three_dashes t k f e = go (is_three t k 45) refl where
  go : (b : Bool) → is_three t k 45 ≡ b → is_three t k 45 ≡ true
  go true q = q
  go false q = absurd (true≢false (sym f.marker ∙ no_marker t k q (three_first t k 46 (λ r. absurd (omega arith)))))

module _ {t : List ℕ} (u : IsUtf8 t) where
  pub reading_begins : ReadUpto t true 0 (only_comments [])
  reading_begins = record {
    height = 0;
    within = omega arith;
    starts = inl at_text;
    sound = λ h y s. subst (λ z. Stream t z (followed (only_comments []) y)) (least_zero h) (subst (λ z. Stream t h z) (nothing_followed y) (stream_from_start s));
    through = paths_begin u;
  }

  pub past_prefix : {b : Bool} {f i j : ℕ} {c d : List CommentValue} {x : Documents} (r : PrefixRead t f i j c d) → ReadUpto t b i x
      → ReadUpto t b j (followed x (only_comments r.upto.comments))
  past_prefix {b} {x = x} r p =
      let parts = rows_parts p.starts r.upto.rows in
      record {
        height = p.height;
        within = p.within;
        starts = parts_next u p.starts parts;
        sound = λ h y s. subst (λ z. Stream t (max p.height h) z) (followed_comments x r.upto.comments y) (p.sound h (with_comments r.upto.comments y) (from_prefixes parts s));
        through = paths_past_prefix r p.through;
      }

  pub past_dots : {b : Bool} {k j : ℕ} {cs : List CommentValue} {x : Documents} → Stuck (Row t k) → ForbiddenLine t k → code t k ≡ 46 → LineEnd t (k + 3) j cs → ReadUpto t b k x
      → ReadUpto t true j (followed x (only_comments cs))
  past_dots {k = k} {cs = cs} {x = x} r f e d p = record {
    height = p.height;
    within = p.within;
    starts = end_next d;
    sound = λ h y s. subst (λ z. Stream t (max p.height h) z) (followed_comments x cs y) (p.sound h (with_comments cs y) (from_suffix (three_dots t k f e) d s));
    through = paths_past_dots r f e d p.through;
  }

  past_one : {b : Bool} {g k j : ℕ} (cs : List CommentValue) (d : Document) {x : Documents} → g ≤ DEPTH
      → ((h : ℕ) (y : Documents) → StreamFrom t false h j y → StreamFrom t b (max g h) k (with_document cs d y)) → LineOrEnd t j → PathsThrough t false j → ReadUpto t b k x
      → ReadUpto t false j (followed x (one_document cs d))
  past_one {g = g} cs d {x = x} w f l q p = record {
    height = max p.height g;
    within = omega (arith, p.within);
    starts = l;
    sound = λ h y s.
        subst (λ z. Stream t z (followed (followed x (one_document cs d)) y)) (thrice p.height g h)
        (subst (λ z. Stream t (max p.height (max g h)) z) (followed_document x cs d y) (p.sound (max g h) (with_document cs d y) (f h y s)));
    through = q;
  }

  pub past_marked_document : {b : Bool} {g k j : ℕ} {m : Meaning} {x : Documents} → g ≤ DEPTH → ExplicitNode t g k j m → PathsThrough t false j → ReadUpto t b k x
      → ReadUpto t false j (followed x (one_document m.comments (document_of k true [] m)))
  past_marked_document {k = k} {m = m} w e q p = past_one m.comments (document_of k true [] m) w (λ h y s. from_explicit e s) (explicit_next u e) q p

  pub past_document : {g k j : ℕ} {cs : List CommentValue} {d : Document} {x : Documents} → g ≤ DEPTH → AnyDocument t g k j d cs → PathsThrough t false j → ReadUpto t true k x
      → ReadUpto t false j (followed x (one_document cs d))
  past_document {cs = cs} {d = d} w a q p = past_one cs d w (λ h y s. from_document a s) (document_next u a) q p

  pub reading_ends : {b : Bool} {k : ℕ} {x : Documents} → k ≡ length t → ReadUpto t b k x → Shapes t x
  reading_ends {b} {k} {x} e p =
      let rest = subst (λ z. StreamFrom t b 0 z (only_comments [])) (sym e) (as_rest stream_ended) in
      let all = subst (λ z. Stream t z x) (zero_last p.height) (subst (λ z. Stream t (max p.height 0) z) (followed_nothing x) (p.sound 0 (only_comments []) rest)) in
      record { height = p.height; derived = all; within = p.within; only = λ h y d l. one_stream u all p.within d l }
