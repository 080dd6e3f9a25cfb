-- Flow collections by hand: their texts, and that they are derived at each offset.
use Rattle.std.proofs.Common.{◌+◌, true, false, [], Some, None, codes, refl}
use lib.Utf8.{encode}
use Rattle.yf_chars.specs.declared.context.Ctx.TheVariants.{FlowOut, FlowIn}
use Rattle.yf_chars.specs.Class.{is_ns_char, is_nb_char, is_printable, is_between, is_break_char, is_white, is_plain_safe, is_indicator, is_flow_indicator}
use Rattle.yf_lines.specs.Steady.{is_steady, has_line_feed, ends_with_colon, is_only, is_marker_of}
use Rattle.yf_plain.specs.Plain.{is_sign}
use Rattle.yf_plain.specs.Kept.{starts_plain, goes_on_plain, is_plain_after, is_plain_line, IsPlain}
use Rattle.yf_events.specs.declared.event.ScalarStyle.TheVariants.{Plain, Single}
use Rattle.yf_grammar.specs.Productions.Meaning.{◌⊕◌, scalar, collection, entering}
use Rattle.yf_grammar.specs.Productions.OneLineTexts.{JsonBack}
use Rattle.yf_grammar.proofs.WrittenTexts.LeafBack.{plain_node_back, single_json_back, json_back}
use Rattle.yf_grammar.proofs.WrittenTexts.FlowBack.{collection_json_back, empty_json_back, last_back, more_back, item_back}
use Rattle.yf_grammar.proofs.WrittenTexts.PairsBack.{pair_back}

plain_a : IsPlain FlowIn (codes "a")
unfolding encode is_plain_line is_plain_after starts_plain goes_on_plain is_sign is_plain_safe is_ns_char is_nb_char is_printable is_between is_break_char is_white is_indicator is_flow_indicator is_steady has_line_feed ends_with_colon is_only is_marker_of
plain_a = record { chars = codes "a"; bytes = refl; line = refl; steady = refl }

-- [a, 'b', []] in a block, and its meaning from an offset on
three_items : JsonBack FlowOut (codes "[a, 'b', []]") 2
    (λ q. collection true true q (q + 12)
    ((entering (q + 1) None (scalar Plain (codes "a") [] (q + 1) (q + 1 + 1)))
    ⊕ ((entering (q + 1 + 1 + 2) None (scalar Single (codes "b") [] (q + 1 + 1 + 2) (q + 1 + 1 + 2 + 3)))
    ⊕ (entering (q + 1 + 1 + 2 + 3 + 2) None (collection true true (q + 1 + 1 + 2 + 3 + 2) (q + 1 + 1 + 2 + 3 + 2 + 2) (record { events = []; comments = []; escapes = []; finish = q + 1 + 1 + 2 + 3 + 2 + 1 }))))))
unfolding encode is_nb_char is_printable is_between is_break_char
three_items = collection_json_back FlowOut true refl
    (more_back (item_back (plain_node_back FlowIn refl plain_a))
    (more_back (item_back (json_back (single_json_back FlowIn (codes "b") refl refl)))
    (last_back (item_back (json_back (empty_json_back FlowIn true refl))))))

-- {a: 'b'}
one_pair : JsonBack FlowOut (codes "{a: 'b'}") 1
    (λ q. collection false true q (q + 8)
    (entering (q + 1) (Some (q + 1 + 1)) (scalar Plain (codes "a") [] (q + 1) (q + 1 + 1)) ⊕ scalar Single (codes "b") [] (q + 1 + 1 + 2) (q + 1 + 1 + 2 + 3)))
unfolding encode is_nb_char is_printable is_between is_break_char
one_pair = collection_json_back FlowOut false refl
    (last_back (pair_back (plain_node_back FlowIn refl plain_a) (json_back (single_json_back FlowIn (codes "b") refl refl))))
