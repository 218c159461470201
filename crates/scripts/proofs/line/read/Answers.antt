use Rattle.std.proofs.Common.{arith, rules, ◌∙◌, ◌≡◌, []}
use Rattle.std.proofs.lemmas.Grind.{common_steps}
use Rattle.scripts.specs.Lines.{said, AreWords}
use Rattle.scripts.proofs.Others.{reads_text}
use Rattle.scripts.proofs.line.read.Goals as goal

pub returns : goal.returns
returns c =
    let (xs, d, e) = c.in_ok-words.ensures.ran in
    let (t, y, last) = d in
    let (u, end) = last tt in
    let text = c.bare-bare.ensures in
    let some : said c.args.text.now ≡ [] → ⊥ = λ z. grind (arith, common_steps, z) in
    let words : AreWords (said c.args.text.now) xs = (c.split_whitespace.result, (c.split_whitespace.ensures.rest ∙ text, (u, (t, y, end)))) in
    let made : c.in_ok-words.words.items ≡ xs = search (rules, e) in
    let same : c.as_slice.result.now ≡ xs = c.as_slice.ensures.value ∙ made in
    reads_text (said c.args.text.now) xs c.read_words.result some words (rw same at c.read_words.ensures)
