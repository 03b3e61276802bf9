-- The laws of the text, from what each kind of stamp keeps.
use Rattle.std.proofs.Common.{◌≡◌, ℕ, List, length, Ok, Err, Result, sym, refl, ap, ◌∙◌, inl, inr, arith}
use Rattle.books.specs.Check.{book_fault, unless}
use Rattle.books.specs.Meaning.{Meaning}
use Rattle.books.specs.declared.fault.Fault.{Fault}
use Rattle.text.specs.Bytes.{and_then}
use Rattle.text.specs.Reads.{room_of}
use Rattle.text.specs.declared.counts.Counts.{Counts}
use Rattle.writing.specs.Replies.{checked_text, canonical_at}
use Rattle.writing.specs.Writes.{book_gap, write_answer}
use Rattle.grammar.specs.Notations.{Notation, ticks, routes, pairs}
use Rattle.grammar.specs.Pieces.{kept}
use Rattle.grammar.specs.Theorems.{read_as, written_of, ReadingIsTheGrammar, WrittenIsReadBack, AcceptedComesBack, CanonicalIsUnchanged, DegreesNest, AnswerIsItsOwn, RefusedAtTheFirstByte}
use Rattle.grammar.proofs.AgreeCombined.{agrees_before}
use Rattle.grammar.proofs.RouteAgrees.{route_agrees}
use Rattle.grammar.proofs.BookCanonical.{book_canonical, book_unique, spelt_held, spelt_gapless}
use Rattle.grammar.proofs.PiecesCanonical.{tick_canonical, tick_unique, tick_fits, pair_canonical, pair_unique, pair_fits}
use Rattle.grammar.proofs.FormsAllowed.{FormsAgree}
use Rattle.grammar.proofs.RouteCanonical.{route_canonical, route_unique, route_fits}
use Rattle.grammar.proofs.FormAtStage.{forms_agree}
use Rattle.grammar.proofs.TickAndPairAgree.{tick_agrees, pair_agrees}
use Rattle.grammar.proofs.BookAgrees.{book_seen, book_reads, book_viable, book_none}
use Rattle.grammar.proofs.Degrees.{plain_to_kept, to_shape, tick_eased, pair_eased, route_eased, book_eased}
use Rattle.grammar.specs.Lawful.{Lawful}

-- ticks keep what is asked of a kind
pub lawful_ticks : Lawful ticks
lawful_ticks =
    record {
      agrees = tick_agrees;
      canonical = λ t h. tick_canonical t (omega (arith, h));
      unique = tick_unique;
      held = λ t text h. omega (arith, tick_fits t text h);
      plainly = tick_eased plain_to_kept;
    }

-- and pairs of ticks
pub lawful_pairs : Lawful pairs
lawful_pairs =
    record {
      agrees = agrees_before (λ rest h. tt) pair_agrees;
      canonical = λ p h. pair_canonical p (omega (arith, h.0)) (omega (arith, h.1));
      unique = pair_unique;
      held = λ p text h. let f = pair_fits p text h in (omega (arith, f.0), omega (arith, f.1));
      plainly = pair_eased plain_to_kept;
    }

-- and routes
pub lawful_routes : Lawful routes
lawful_routes =
    record {
      agrees = agrees_before (λ rest h. tt) route_agrees;
      canonical = route_canonical;
      unique = route_unique;
      held = route_fits;
      plainly = route_eased plain_to_kept;
    }

module _ {S : Type 0} (n : Notation S) (l : Lawful n) where
  forms : (room : Counts) → FormsAgree n room
  forms room stage g atoms rules = forms_agree n room l.agrees atoms rules stage g

  -- a text is read as a book exactly where it spells it and the tables take it
  pub reading_is_the_grammar_lem : ReadingIsTheGrammar n
  reading_is_the_grammar_lem text atoms rules m =
      let room = room_of atoms rules in
      record {
        spelling = λ e. (book_seen n room (forms room) text m e).0;
        takes = λ e. let b = book_seen n room (forms room) text m e in record { few_atoms = b.1; few_rules = b.2 };
        reads = λ h t. elim (book_reads n room (forms room) kept text m h (t.few_atoms, t.few_rules)) [ inl e ↦ e | inr z ↦ absurd z.0 ];
      }

  -- a book that is written is read back
  pub written_is_read_back_lem : WrittenIsReadBack n
  written_is_read_back_lem atoms rules m gapless held takes =
      let spelt = book_canonical n l.canonical m gapless held in
      (reading_is_the_grammar_lem (written_of n m) atoms rules m).reads (book_eased plain_to_kept n l.plainly m (written_of n m) spelt) takes

  -- the book of an accepted text can be written, and comes back
  pub accepted_comes_back_lem : AcceptedComesBack n
  accepted_comes_back_lem text atoms rules m e =
      let laws = reading_is_the_grammar_lem text atoms rules m in
      let spelt = laws.spelling e in
      let takes = laws.takes e in
      let gapless = spelt_gapless n m text spelt (omega (arith, takes.few_atoms)) (omega (arith, takes.few_rules)) in
      let held = spelt_held n l.held m text spelt in
      record {
        written = gapless;
        held = held;
        canonical = book_canonical n l.canonical m gapless held;
        same = written_is_read_back_lem atoms rules m gapless held takes;
      }

  -- a text without leading zeros is read as its book, and is what is written of it
  pub canonical_is_unchanged_lem : CanonicalIsUnchanged n
  canonical_is_unchanged_lem text m h =
      record {
        read = λ atoms rules takes. (reading_is_the_grammar_lem text atoms rules m).reads (book_eased plain_to_kept n l.plainly m text h) takes;
        written = sym (book_unique n l.unique m text h);
      }

  -- each degree of care keeps what the lower one keeps
  pub degrees_nest : DegreesNest n
  degrees_nest m text =
      record {
        plainly = book_eased plain_to_kept n l.plainly m text;
        shapely = book_eased (to_shape kept) n (λ s t. l.agrees.shaped kept s t) m text;
      }

  -- where a book is checked and written, its text is what is answered
  written_answer : (m : Meaning S) (checked : Result (Unit {0}) Fault) (written : Result ℕ Fault) (answer : List ℕ) → and_then checked (λ _. and_then written (λ _. Ok (written_of n m))) ≡ Ok answer → answer ≡ written_of n m
  written_answer m checked written answer e = grind arith

  -- what is answered to a text is answered to that answer
  pub answer_is_its_own : AnswerIsItsOwn n
  answer_is_its_own tests text answer atoms rules room e = by_book (read_as n text atoms rules) refl e
    where
      by_book : (r : Result (Meaning S) Fault) → read_as n text atoms rules ≡ r → and_then r (λ m. checked_text n.word n.spelt tests m room) ≡ Ok answer → canonical_at n.stamp_at n.word n.spelt tests answer atoms rules room ≡ Ok answer
      by_book (Ok m) read h =
          let same = written_answer m (unless (book_fault tests m)) (write_answer (book_gap m) (length (written_of n m)) room) answer h in
          let again : read_as n answer atoms rules ≡ Ok m = ap (λ t. read_as n t atoms rules) same ∙ (accepted_comes_back_lem text atoms rules m read).same in
          ap (λ r. and_then r (λ m. checked_text n.word n.spelt tests m room)) again ∙ h
      by_book (Err f) read h = absurd (grind arith)

  -- a byte is refused where no text of the shape goes on with it
  pub refused_at_the_first_byte_lem : RefusedAtTheFirstByte n
  refused_at_the_first_byte_lem text atoms rules k e =
      let room = room_of atoms rules in
      let viable = book_viable n room (forms room) text k e in
      record {
        within = viable.0;
        before = (viable.1.0, (viable.1.1, viable.1.2));
        none = λ below more (m, h). book_none n room (forms room) text k e below more m h;
      }
