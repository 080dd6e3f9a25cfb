-- The directives that are read are those that the grammar derives before a `---`.
use Rattle.std.proofs.Common.{◌≡◌, ◌≢◌, ℕ, ◌+◌, List, [], ◌∷◌, ◌++◌, slice_range, refl, sym, ap, ◌∙◌, subst, arith, append-nil}
use Rattle.std.specs.Str.{IsUtf8}
use Rattle.yf_chars.specs.Chain.{Chosen, Stuck}
use Rattle.yf_chars.specs.Text.{code}
use Rattle.yf_chars.proofs.ChainLemmas.{chain_append, chain_one}
use Rattle.yf_comments.specs.Comment.{CommentValue}
use Rattle.yf_comments.specs.Comments.{Row}
use Rattle.yf_comments.proofs.LineEndLemmas.{line_end_rows, rows_line_end}
use Rattle.yf_events.specs.declared.directive.Directive.{Directive}
use Rattle.yf_stream.specs.DirectiveReaders.{IsDirective, LongestDirectives, no_directives, one_directive}
use Rattle.yf_stream.proofs.ReaderLaws.{DirectivesAreRead}
use Rattle.yf_stream.specs.Stream.{Directives}
use Rattle.yf_stream.proofs.Uniqueness.Forward.{line_end_forward}
use Rattle.yf_stream.proofs.Uniqueness.OneDirective.{DirectivesTo, LineTo, directives_begin, last_to, line_one, lines_to, more_to}

-- equal directives with equal ends
pub record Same (k j : ℕ) (es ds : List Directive) (fs cs : List CommentValue) : Type 0 where
  pub place : k ≡ j
  pub directives : es ≡ ds
  pub comments : fs ≡ cs

module _ {t : List ℕ} where
  -- all comment lines after a directive are its own
  still : {i k : ℕ} {x : Directives} → Chosen (IsDirective t i) k x → Stuck (Row t k)
  still {i} {k} {x} c = record {
    none = λ j y r.
        let d = c.derived in
        let forward = line_end_forward d.ends in
        let later = r.later in
        let longer : IsDirective t i j (record { directives = x.directives; comments = x.comments ++ y }) = record {
          name_end = d.name_end;
          words_end = d.words_end;
          words = d.words;
          percent = d.percent;
          name = d.name;
          parameters = d.parameters;
          ends = rows_line_end (chain_append (line_end_rows d.ends) (chain_one r)) (omega arith);
          is = d.is;
        } in
        let within = c.longest j (record { directives = x.directives; comments = x.comments ++ y }) longer in
        absurd (omega arith);
  }

  pub line_of : {i k : ℕ} {x : Directives} → Chosen (IsDirective t i) k x → (d : Directive) × LineTo t i k d x.comments × (x.directives ≡ d ∷ [])
  line_of {i} c =
      let d = c.derived in (
        record { offset = i; words = slice_range t (i + 1) d.name_end ∷ d.words },
        record {
          line = record {
            name_end = d.name_end;
            words_end = d.words_end;
            words = d.words;
            percent = d.percent;
            name = d.name;
            parameters = d.parameters;
            ends = d.ends;
            is = refl;
          };
          last = still c;
        },
        d.is,
      )

module _ {t : List ℕ} (u : IsUtf8 t) where
  ends_there : {k j : ℕ} {ds : List Directive} {cs : List CommentValue} → code t k ≡ 45 → LongestDirectives t k j ds cs → Same k j [] ds [] cs
  ends_there e no_directives = record { place = refl; directives = refl; comments = refl }
  ends_there e (one_directive c r) = let p = c.derived.percent in absurd (omega arith)

  pub same : {i j k : ℕ} {ds es : List Directive} {cs fs : List CommentValue} → code t j ≢ 37 → LongestDirectives t i j ds cs → DirectivesTo t i k es fs → Same k j es ds fs cs
  same n no_directives d = absurd (n (directives_begin d))
  same {j = j} n (one_directive {k = m} {x = x} {ds = ds} {cs = cs} c r) (last_to {l = k} {d = d} {cs = fs} a e) =
      let l = line_of c in
      let o = line_one u a l.1 in
      let s = ends_there (ap (code t) (sym o.0) ∙ e) r in
      record {
        place = o.0 ∙ s.place;
        directives = ap (λ z. z ∷ []) o.1 ∙ sym l.2 ∙ sym (append-nil x.directives) ∙ ap (λ z. x.directives ++ z) s.directives;
        comments = o.2 ∙ sym (append-nil x.comments) ∙ ap (λ z. x.comments ++ z) s.comments;
      }
  same {j = j} n (one_directive {k = m} {x = x} {ds = ds} {cs = cs} c r) (more_to {k = k} {l = h} {d = d} {ds = es} {cs = gs} {es = fs} a e more) =
      let l = line_of c in
      let o = line_one u a l.1 in
      let s = same n r (subst (λ z. DirectivesTo t z h es fs) o.0 more) in
      record {
        place = s.place;
        directives = ap (λ z. z ∷ es) o.1 ∙ ap (λ z. z ++ es) (sym l.2) ∙ ap (λ z. x.directives ++ z) s.directives;
        comments = ap (λ z. z ++ fs) o.2 ∙ ap (λ z. x.comments ++ z) s.comments;
      }

pub directives_are_read : DirectivesAreRead
directives_are_read t i j k ds a b x u r d e =
    let s = same u r.last r.upto.longest (lines_to d e) in
    (s.place, s.directives, s.comments)
