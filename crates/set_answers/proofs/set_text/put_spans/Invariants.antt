use Rattle.std.proofs.Common.{◌≡◌, ◌++◌, take, flat_map}
use Rattle.set_answers.specs.SetTexts.{members_in, span_entry}
use Rattle.set_answers.proofs.set_text.put_spans.Given as goal

-- the lines of the spans so far, and how many code points lie in them
abbrev pub invariant-spans : goal.invariant-spans
invariant-spans l =
    record {
      text : l.text ≡ l.initial.text ++ flat_map span_entry (take l.span-index l.spans);
      count : l.count ≡ members_in (take l.span-index l.spans);
    }
