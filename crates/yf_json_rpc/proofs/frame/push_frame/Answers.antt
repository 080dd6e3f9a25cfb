use Rattle.std.proofs.Common.{◌≡◌, List, ℕ, ◌++◌, length, codes, decimal, Result, Ok, Err, IfOk, is_ok, if◌then◌else◌, ap, ◌∙◌, append_assoc}
use Rattle.yf_json_rpc.specs.Frames.{frame}
use Rattle.yf_json_rpc.proofs.frame.push_frame.Goals as goal

appended : {T E : Type 0} (r : Result T E) (was now part all : List ℕ) → now ≡ (if is_ok r then was ++ part else was)
    → was ++ part ≡ all → IfOk r (λ _. now ≡ all)
appended (Ok x) was now part all e h = e ∙ h
appended (Err x) was now part all e h = tt

joined : (out body a b c : List ℕ) → a ≡ out ++ codes "Content-Length: " → b ≡ a ++ decimal (length body)
    → c ≡ b ++ codes "\r\n\r\n" → c ++ body ≡ out ++ frame body
joined out body a b c d e f = rw (f, e, d) (simp append_assoc)

pub returns : goal.returns
returns c =
    let digits = c.in_ok-extend_from_slice-2.ensures.items
    ∙ ap (λ z. c.extend_from_slice.new.self.items ++ z) (c.as_bytes.ensures.value ∙ c.format.ensures.text) in
    let part = ap (λ z. c.extend_from_slice-3.new.self.items ++ z) c.as_bytes-2.ensures.value in
    appended c.extend_from_slice-4.result c.extend_from_slice-3.new.self.items c.extend_from_slice-4.new.self.items
    c.as_bytes-2.result.now _ c.extend_from_slice-4.ensures.items
    (part ∙ joined c.args.out.now.items c.args.body.now c.extend_from_slice.new.self.items
    c.extend_from_slice-2.new.self.items c.extend_from_slice-3.new.self.items c.in_ok-extend_from_slice.ensures.items
    digits c.in_ok-extend_from_slice-3.ensures.items)
