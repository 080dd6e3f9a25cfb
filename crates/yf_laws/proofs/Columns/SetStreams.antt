-- The documents of a laid-out stream are set nodes.
use Rattle.std.proofs.Common.{ℕ, true, List, [], ◌∷◌}
use Rattle.yf_comments.specs.Comment.{CommentValue}
use Rattle.yf_events.specs.declared.directive.Directive.{Directive}
use Rattle.yf_grammar.specs.Productions.Meaning.{Meaning}
use Rattle.yf_stream.specs.Stream.{Document, document_of, Documents, with_document}
use Rattle.yf_forms.specs.declared.style.Style.{Style}
use Rattle.yf_laws.proofs.Columns.SetMeant.{SetDone}

pub data SetAll (t : List ℕ) (s : Style) : List Document → Type 0 where
  none_set : SetAll t s []
  some_set : {d : Document} {ds : List Document} → SetDone t s 0 s.indent d.events → SetAll t s ds → SetAll t s (d ∷ ds)

pub document_set : {t : List ℕ} {s : Style} (i : ℕ) (dirs : List Directive) (m : Meaning) → SetDone t s 0 s.indent m.events → SetDone t s 0 s.indent (document_of i true dirs m).events
unfolding document_of
document_set i dirs m a = a

pub documents_set : {t : List ℕ} {s : Style} (cs : List CommentValue) (d : Document) (rest : Documents) → SetDone t s 0 s.indent d.events → SetAll t s rest.documents → SetAll t s (with_document cs d rest).documents
unfolding with_document
documents_set cs d rest a b = some_set a b
