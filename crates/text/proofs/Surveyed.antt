-- The two passes over a text agree.
use Rattle.std.proofs.Common.{◌≡◌, ℕ, zero, suc, ◌+◌, ◌<◌, ◌≤◌, Bool, true, false, cond, List, length, Ok, Err, Result, ◌⊎◌, inl, inr, sym, refl, ap, ◌∙◌, arith}
use Rattle.books.specs.Meaning.{Meaning}
use Rattle.books.specs.declared.fault.Fault.{Fault}
use Rattle.text.specs.Bytes.{and_then, wrong_at}
use Rattle.text.specs.Forms.{Line, form_at}
use Rattle.text.specs.Reads.{Progress, start_progress, start_reader, moved_by, after, is_end, finished, one_form, one_move, progress_at, survey_at, book_at}
use Rattle.text.specs.Turns.{turns, tries}
use Rattle.text.proofs.Turned.{turns_none, tries_more, tries_end, tries_refused}
use Rattle.text.specs.declared.reader.Reader.{Reader}
use Rattle.text.specs.declared.counts.Counts.{Counts}

-- where the reader stands, of what a pass has found
abbrev pub reader_of : {S : Type 0} → Result (Progress S) Fault → Result Reader Fault
reader_of (Ok s) = Ok s.reader
reader_of (Err e) = Err e

-- what the survey answers, and which book is read, once all turns are done
abbrev pub survey_of : {S : Type 0} → ℕ → Result (Progress S) Fault → Result Reader Fault
survey_of n r = and_then (reader_of r) (λ r. cond (is_end r.stage) (Ok r) (wrong_at n))

abbrev pub book_of : {S : Type 0} → ℕ → Result (Progress S) Fault → Result (Meaning S) Fault
book_of n r = and_then r (λ s. cond (is_end s.reader.stage) (Ok (record { atoms = s.atoms; rules = s.rules })) (wrong_at n))

abbrev book_from : {S : Type 0} → Progress S → Meaning S
book_from s = record { atoms = s.atoms; rules = s.rules }

abbrev move_by : {S : Type 0} → Reader → Line S × ℕ → Result Reader Fault
move_by r p = Ok (moved_by r p.0 p.1)

abbrev go_by : {S : Type 0} → Progress S → Line S × ℕ → Result (Progress S) Fault
go_by s p = Ok (after s p)

move_of : {S : Type 0} (s : Progress S) (b : Bool) (f : Result (Line S × ℕ) Fault) → reader_of (cond b (Ok s) (and_then f (go_by s))) ≡ cond b (Ok s.reader) (and_then f (move_by s.reader))
move_of s true f = refl
move_of s false (Ok p) = refl
move_of s false (Err e) = refl

module _ {S : Type 0} (stamp_at : List ℕ → ℕ → Result (S × ℕ) Fault) (spelling : List ℕ) (text : List ℕ) (room : Counts) where
  abbrev form : Progress S → Result (Progress S) Fault
  form = one_form stamp_at spelling text room

  abbrev move : Reader → Result Reader Fault
  move = one_move stamp_at spelling text room

  same_step : (r : Result (Progress S) Fault) → reader_of (and_then r form) ≡ and_then (reader_of r) move
  same_step (Ok s) = move_of s (finished text s.reader) (form_at stamp_at spelling text room s.reader)
  same_step (Err e) = refl

  same_turns : (n : ℕ) → reader_of (tries form start_progress n) ≡ tries move start_reader n
  unfolding turns
  same_turns zero = refl
  same_turns (suc n) = same_step (tries form start_progress n) ∙ ap (λ r. and_then r move) (same_turns n)

  pub survey_is : survey_at stamp_at spelling text room ≡ survey_of (length text) (progress_at stamp_at spelling text room)
  unfolding survey_at progress_at
  survey_is = sym (ap (λ r. and_then r (λ r. cond (is_end r.stage) (Ok r) (wrong_at (length text)))) (same_turns (length text)))

  pub book_is : book_at stamp_at spelling text room ≡ book_of (length text) (progress_at stamp_at spelling text room)
  unfolding book_at
  book_is = refl

-- the reader stands there after n turns
pub record Surveys {S : Type 0} (stamp_at : List ℕ → ℕ → Result (S × ℕ) Fault) (spelling : List ℕ) (text : List ℕ) (room : Counts) (n : ℕ) (r : Reader) : Type 0 where
  pub reached : Ok r ≡ tries (one_move stamp_at spelling text room) start_reader n

pub surveys_none : {S : Type 0} (stamp_at : List ℕ → ℕ → Result (S × ℕ) Fault) (spelling : List ℕ) (text : List ℕ) (room : Counts) → Surveys stamp_at spelling text room 0 start_reader
surveys_none stamp_at spelling text room = record { reached = sym (turns_none (λ r. and_then r (one_move stamp_at spelling text room)) (Ok start_reader)) }

module _ {S : Type 0} {stamp_at : List ℕ → ℕ → Result (S × ℕ) Fault} {spelling : List ℕ} {text : List ℕ} {room : Counts} {n : ℕ} {r : Reader} (h : Surveys stamp_at spelling text room n r) where
  abbrev step : Reader → Result Reader Fault
  step = one_move stamp_at spelling text room

  abbrev ends : Result Reader Fault → Result Reader Fault
  ends o = and_then o (λ r. cond (is_end r.stage) (Ok r) (wrong_at (length text)))

  pub surveys_more : false ≡ finished text r → (line : Line S) (next : ℕ) → Ok (line, next) ≡ form_at stamp_at spelling text room r → (r' : Reader) → r' ≡ moved_by r line next → Surveys stamp_at spelling text room (n + 1) r'
  surveys_more going line next e r' k =
      let moves : Ok r' ≡ step r = rw (← going, ← e) (ap Ok k) in
      record { reached = moves ∙ tries_more step start_reader n r h.reached }

  pub survey_refused : false ≡ finished text r → (e : Fault) → Err e ≡ form_at stamp_at spelling text room r → n < length text → Err e ≡ survey_at stamp_at spelling text room
  unfolding survey_at
  survey_refused going e k l =
      let refuses : Err e ≡ step r = rw (← going, ← k) refl in
      ap ends (tries_refused step start_reader n (length text) r e h.reached refuses l)

  -- a finished text stays as it is
  all_turned : (length text ≤ n) ⊎ (true ≡ finished text r) → n ≤ length text → Ok r ≡ tries step start_reader (length text)
  all_turned (inl past) l = let last : n ≡ length text = omega arith in h.reached ∙ ap (tries step start_reader) last
  all_turned (inr done) l =
      let stays : step r ≡ Ok r = rw (← done) refl in
      tries_end step start_reader r n (length text) stays h.reached l

  -- after all turns the stage decides
  pub survey_over : (length text ≤ n) ⊎ (true ≡ finished text r) → n ≤ length text → (b : Bool) → b ≡ is_end r.stage → cond b (Ok r) (wrong_at (length text)) ≡ survey_at stamp_at spelling text room
  unfolding survey_at
  survey_over over l b e = ap (λ b. cond b (Ok r) (wrong_at (length text))) e ∙ ap ends (all_turned over l)

module _ {S : Type 0} (n : ℕ) where
  ended : (s : Progress S) (b : Bool) (r : Reader) → Ok r ≡ cond b (Ok s.reader) (wrong_at n) → (r ≡ s.reader) × (b ≡ true)
  ended s true r e = (cc, refl)
  ended s false r e = let z : ◌≡◌ {A = ℕ} 0 1 = cc in absurd (omega arith)

  -- a survey that is accepted ends where the other pass does, and the book is what that has read
  pub book_accepted : (s : Progress S) (r : Reader) → Ok r ≡ survey_of n (Ok s) → (r ≡ s.reader) × (book_of n (Ok s) ≡ Ok (book_from s))
  book_accepted s r e =
      let p = ended s (is_end s.reader.stage) r e in
      (p.0, ap (λ b. cond b (Ok (book_from s)) (wrong_at n)) p.1)

  unended : (s : Progress S) (b : Bool) (e : Fault) → Err e ≡ cond b (Ok s.reader) (wrong_at n) → Err e ≡ cond b (Ok (book_from s)) (wrong_at n)
  unended s true e h = let z : ◌≡◌ {A = ℕ} 0 1 = cc in absurd (omega arith)
  unended s false e h = cc

  -- a survey's fault is the text's
  pub book_refused : (r : Result (Progress S) Fault) (e : Fault) → Err e ≡ survey_of n r → Err e ≡ book_of n r
  book_refused (Ok s) e h = unended s (is_end s.reader.stage) e h
  book_refused (Err d) e h = cc

  -- a survey that is accepted met no fault
  pub no_fault : (q : Result (Progress S) Fault) (r : Reader) (e : Fault) → Err e ≡ q → Ok r ≡ survey_of n q → ⊥
  no_fault (Ok s) r e k h = let z : ◌≡◌ {A = ℕ} 0 1 = cc in omega arith
  no_fault (Err d) r e k h = let z : ◌≡◌ {A = ℕ} 0 1 = cc in omega arith
