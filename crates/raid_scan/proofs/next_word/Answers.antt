use Rattle.std.proofs.Common.{◌<◌, ◌∙◌, sym, arith}
use Rattle.std.proofs.lemmas.Bool.Decides.{nat_tests}
use Rattle.raid_scan.proofs.Pieces.{word_is, word_starts, no_words}
use Rattle.raid_scan.proofs.next_word.Goals as goal

pub returns-then-is_empty : goal.returns-then-is_empty
returns-then-is_empty c = sym c.skip_separators-line.ensures.words ∙ no_words c.skip_separators-line.result.now (grind (arith, nat_tests))

pub returns : goal.returns
returns c =
    let line = c.skip_separators-line.result.now in
    let some : 0 < c.word_len.result = word_starts line c.word_len.result (c.skip_separators-line.ensures.front (grind (arith, nat_tests))) (grind (arith, nat_tests)) c.word_len.ensures.behind in
    sym c.skip_separators-line.ensures.words ∙ rw (c.split_at.ensures.front, c.split_at.ensures.back) (word_is line c.word_len.result some c.word_len.ensures.within c.word_len.ensures.word c.word_len.ensures.behind)
