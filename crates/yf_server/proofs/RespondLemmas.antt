-- Responses to requests.
use Rattle.std.proofs.Common.{◌≡◌, ℕ, List, [], ◌∷◌, Bool, true, false, MatchBool, Option, None, Some, Result, Ok, Err, IfOk, option_to_list, refl, rules, subst}
use Rattle.std.specs.declared.alloc.AllocError.{AllocError}
use Rattle.serde_json.specs.Data.{Data, null}
use Rattle.serde_json.specs.declared.value.Value.{Value, Null, the_lemmas}
use Rattle.serde_json.specs.View.{view}
use Rattle.yf_json_rpc.specs.declared.error_code.ErrorCode.{ErrorCode}
use Rattle.yf_positions.specs.declared.encoding.Encoding.{Encoding}
use Rattle.yf_server.specs.declared.documents.OpenDocument.{OpenDocument}
use Rattle.yf_server.specs.Analysis.{TextClaim}
use Rattle.yf_server.specs.Documents.{OpenText, find, text_of}
use Rattle.yf_server.specs.Edits.{FailsWith, named_uri}
use Rattle.yf_server.specs.Queries.{Asked, query_of}
use Rattle.yf_server.specs.Responses.{AnswersFor, AnswersQuery, AnswersRequest, AnswersText, AnswersUri}
use Rattle.yf_server.specs.Steps.{response_ids}

-- the answer for an open document
pub answers_open : (claim : TextClaim) (e : Encoding) (id : Data) (query : Asked) (uri : List ℕ) (was : Option OpenText)
    (x : OpenDocument) (r : Result Value AllocError) → was ≡ Some (text_of x)
    → IfOk r (λ answer. AnswersText claim e id query uri x.document (Some (view answer)))
    → IfOk r (λ answer. AnswersFor claim e id query uri was (Some (view answer)))
answers_open claim e id query uri was x r is h = rw is h

-- each response is one, with the id
failed_once : (id : Data) (code : ErrorCode) (sent : Option Data) → FailsWith id code sent
    → response_ids (option_to_list sent) ≡ id ∷ []
failed_once id code sent h = rw h.is refl

text_once : (claim : TextClaim) (e : Encoding) (id : Data) (query : Asked) (uri : List ℕ) (text : Option (List ℕ))
    (sent : Option Data) → AnswersText claim e id query uri text sent → response_ids (option_to_list sent) ≡ id ∷ []
text_once claim e id query uri None sent h = rw h.is refl
text_once claim e id query uri (Some text) sent h = rw h.is refl

for_once : (claim : TextClaim) (e : Encoding) (id : Data) (query : Asked) (uri : List ℕ) (was : Option OpenText)
    (sent : Option Data) → AnswersFor claim e id query uri was sent → response_ids (option_to_list sent) ≡ id ∷ []
for_once claim e id query uri None sent h = rw h.is refl
for_once claim e id query uri (Some was) sent h = text_once claim e id query uri was.text sent h

uri_once : (claim : TextClaim) (e : Encoding) (documents : List OpenDocument) (id : Data) (query : Asked)
    (uri : Option (List ℕ)) (sent : Option Data) → AnswersUri claim e documents id query uri sent
    → response_ids (option_to_list sent) ≡ id ∷ []
uri_once claim e documents id query None sent h = rw h.is refl
uri_once claim e documents id query (Some uri) sent h = for_once claim e id query uri (find uri documents) sent h

query_once : (claim : TextClaim) (e : Encoding) (documents : List OpenDocument) (id : Data) (uri : Option (List ℕ))
    (query : Result Asked ErrorCode) (sent : Option Data) → AnswersQuery claim e documents id uri query sent
    → response_ids (option_to_list sent) ≡ id ∷ []
query_once claim e documents id uri (Err code) sent h = failed_once id code sent h
query_once claim e documents id uri (Ok query) sent h = uri_once claim e documents id query uri sent h

pub by_test : {R : Type 0} (b : Bool) (P Q : Type 0) → (P → R) → (Q → R) → MatchBool b P Q → R
by_test true P Q f g h = f h
by_test false P Q f g h = g h

pub request_once : (claim : TextClaim) (e : Encoding) (documents : List OpenDocument) (id : Data)
    (method : List ℕ) (d : Data) (sent : Option Data)
    → AnswersRequest claim e documents id method d sent → response_ids (option_to_list sent) ≡ id ∷ []
request_once claim e documents id method d sent h =
    query_once claim e documents id (named_uri d) (query_of method d) sent h

pub view_null : view Null ≡ null
view_null = search (rules, the_lemmas)

-- an answer, by an id and a method that are equal
pub answers_same : (claim : TextClaim) (e : Encoding) (documents : List OpenDocument) (d id same : Data)
    (method also : List ℕ) (r : Result Value AllocError) → id ≡ same → method ≡ also
    → IfOk r (λ answer. AnswersRequest claim e documents id method d (Some (view answer)))
    → IfOk r (λ answer. AnswersRequest claim e documents same also d (Some (view answer)))
answers_same claim e documents d id same method also r i m h =
    subst (λ (x : Data). IfOk r (λ answer. AnswersRequest claim e documents x also d (Some (view answer)))) i
    (subst (λ (x : List ℕ). IfOk r (λ answer. AnswersRequest claim e documents id x d (Some (view answer)))) m h)
