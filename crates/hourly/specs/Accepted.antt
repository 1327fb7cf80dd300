-- What an accepted journal is: the text of its lines, each in range, their hours from the first to the last and within 744 hours. Assumes nothing.
use Rattle.std.specs.Prelude.{◌≡◌, true, List, ℕ, ◌+◌, ◌≤◌, ◌<◌, length}
use Rattle.std.proofs.Common.{arith}
use Rattle.paper.specs.Answer.{done}
use Rattle.journal.specs.Line.{in_range}
use Rattle.journal.specs.LineLaws.{range-either}
use Rattle.journal.specs.Journal.{journal_of, form_of, first_hour, last_hour, journal_text}
use Rattle.journal.specs.JournalLaws.{Each, each_map, journal-short, journal-text, journal-range, lines-most}
use Rattle.journal.specs.Order.{Within, journal-ordered, journal-within, ordered-span}
use Rattle.journal.specs.declared.Form.TheVariants.{New}
use Rattle.journal.specs.declared.Line.{Line}

-- a line's values are in range, those of an old one too, and those of each line
abbrev pub InRange : Line → Type 0
InRange l = in_range New l ≡ true

abbrev pub Ranged : List Line → Type 0
Ranged ls = Each InRange ls

-- what a journal is that is accepted with these lines
pub record Accepted (s : List ℕ) (ls : List Line) : Type 0 where
  pub few : length ls ≤ 16384
  pub text : s ≡ journal_text (form_of s) ls
  pub ranged : Ranged ls
  pub within : Each (Within ls) ls
  pub order : first_hour ls ≤ last_hour ls
  pub span : last_hour ls < first_hour ls + 744

pub accepted : (s : List ℕ) (ls : List Line) → journal_of s ≡ done ls → Accepted s ls
accepted s ls e =
    let hours = ordered-span ls (journal-ordered s ls e) in
    record {
      few = omega (arith, journal-short s ls e, lines-most s ls e);
      text = journal-text s ls e;
      ranged = each_map ls (range-either (form_of s)) (journal-range s ls e);
      within = journal-within s ls e;
      order = hours.0;
      span = hours.1;
    }
