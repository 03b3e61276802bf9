-- The small texts, computed.
use Rattle.std.proofs.Common.{◌≡◌, length, Ok, sym, refl, ap, ◌∙◌, subst, arith}
use Rattle.std.proofs.lemmas.Fmt.{decimal_digit}
use Rattle.text.specs.Forms.{form_at, order_at, atom_at, rule_form_at, void_at, end_at, refused_at}
use Rattle.text.specs.Lists.{open_at, onward_at}
use Rattle.text.specs.Numbers.{number_at}
use Rattle.text.specs.Reads.{progress_at, book_at}
use Rattle.text.specs.Rules.{body_at, rule_at}
use Rattle.text.specs.Spelt.{up_to, book_text}
use Rattle.text.specs.Stamps.{aisles_at}
use Rattle.text.specs.Turns.{turns}
use Rattle.text.specs.Words.{pass_word, agrees_to}
use Rattle.grammar.specs.Examples.{zeros, bare, two, ExamplesHold}
use Rattle.grammar.specs.Notations.{ticks}
use Rattle.grammar.specs.Pieces.{plain}
use Rattle.grammar.specs.Theorems.{read_as, written_of, SpeltBy}
use Rattle.grammar.proofs.Laws.{lawful_ticks, reading_is_the_grammar_lem, accepted_comes_back_lem, canonical_is_unchanged_lem}

two_written : written_of ticks two ≡ bare
unfolding book_text up_to
two_written = rw (decimal_digit 0 (omega arith), decimal_digit 1 (omega arith), decimal_digit 2 (omega arith)) refl

zeros_read_lem : read_as ticks zeros 2 2 ≡ Ok two
unfolding book_at progress_at form_at order_at atom_at rule_form_at void_at end_at refused_at open_at onward_at number_at body_at rule_at aisles_at turns pass_word agrees_to
zeros_read_lem = refl

zeros_not_plain_lem : SpeltBy ticks plain two zeros → ⊥
zeros_not_plain_lem h =
    let lengths : length bare ≡ length zeros = ap length (sym two_written ∙ (canonical_is_unchanged_lem ticks lawful_ticks zeros two h).written) in
    absurd (omega (arith, lengths))

bare_plain_lem : SpeltBy ticks plain two bare
bare_plain_lem = subst (SpeltBy ticks plain two) two_written (accepted_comes_back_lem ticks lawful_ticks zeros 2 2 two zeros_read_lem).canonical

-- each line of the record
pub examples_hold_lem : ExamplesHold
unfolding book_at progress_at form_at order_at atom_at rule_form_at void_at end_at refused_at open_at onward_at number_at body_at rule_at aisles_at turns pass_word agrees_to
examples_hold_lem =
    record {
      zeros_read = zeros_read_lem;
      bare_read = refl;
      written = two_written;
      zeros_kept = (reading_is_the_grammar_lem ticks lawful_ticks zeros 2 2 two).spelling zeros_read_lem;
      zeros_not_plain = zeros_not_plain_lem;
      bare_plain = bare_plain_lem;
      wrong_byte = refl;
      broken_off = refl;
      not_next = refl;
      no_room = refl;
      undeclared = refl;
      falling = refl;
      route = refl;
      pair = refl;
    }
