-- What is done if memory for a step was refused.
use Rattle.std.proofs.Common.{◌≡◌, ◌∙◌, ◌⊎◌, List, ℕ, Bool, Option, Some, None, Result, Ok, Err, IfOk, ap, inl, inr, option_map, subst, sym}
use Rattle.std.specs.declared.alloc.AllocError.{AllocError}
use Rattle.serde_json.specs.Data.{Data}
use Rattle.yf_server.specs.declared.documents.OpenDocument.{OpenDocument}
use Rattle.yf_server.specs.declared.step.Server.{Server}
use Rattle.yf_server.specs.Analysis.{TextClaim}
use Rattle.yf_server.specs.Documents.{Updates, find, without_text}
use Rattle.yf_server.specs.Losses.{LosesText, notified_uri}
use Rattle.yf_server.specs.Steps.{IsSame}
use Rattle.yf_server_loop.specs.declared.handle.Handled.{Handled}
use Rattle.yf_server_loop.specs.Handled.{IsLost, IsUndone, Reacts, Undoes}

same_since : (a b c : Server) → IsSame a b → IsSame b c → IsSame a c
same_since a b c s t = record {
  phase = t.phase ∙ s.phase;
  terms = t.terms ∙ s.terms;
  documents = t.documents ∙ s.documents;
}

loses_since : (a b c : Server) (uri : List ℕ) → IsSame a b → LosesText b c uri → LosesText a c uri
loses_since a b c uri s l = record {
  phase = l.phase ∙ s.phase;
  terms = l.terms ∙ s.terms;
  documents = subst
      (λ (xs : List OpenDocument). Updates xs c.documents.items uri (option_map without_text (find uri xs)))
      s.documents l.documents;
}

undoes_since : (claim : TextClaim) (a b : Server) (value : Data) (answer : List ℕ) (c : Server) (exit : Option Bool)
    → IsSame a b → Undoes claim b value answer c exit → Undoes claim a value answer c exit
undoes_since claim a b value answer c exit s (inl u) =
    inl (record {
      same = same_since a b c s u.same;
      goes_on = u.goes_on;
      id = u.id;
      method = u.method;
      asks = u.asks;
      sent = u.sent;
      fails = u.fails;
      written = u.written;
    })
undoes_since claim a b value answer c exit s (inr l) =
    inr (record {
      goes_on = l.goes_on;
      uri = l.uri;
      about = ap (λ p. notified_uri p value) (sym s.phase) ∙ l.about;
      loses = loses_since a b c l.uri s l.loses;
      tells = l.tells;
    })

pub reacts_since : (claim : TextClaim) (a b : Server) (value : Data) (c : Server) (r : Result Handled AllocError)
    → IsSame a b → IfOk r (λ handled. Undoes claim b value handled.answer.items c handled.exit)
    → IfOk r (λ handled. Reacts claim a (Some value) handled.answer.items c handled.exit)
reacts_since claim a b value c (Ok handled) s h =
    inr (undoes_since claim a b value handled.answer.items c handled.exit s h)
reacts_since claim a b value c (Err refused) s h = tt
