-- How a line is read, byte by byte, in a state of a few numbers and a room of 5,140 bytes: the code's own steps as
-- definitions. A reader stands at a place of the table: the text of that row before the place is what the line so far has,
-- and every row from there on with the same text may still be the line's. The room has the numbers that ended, two bytes
-- each, and of a list its entries, 20 bytes each. That this reads just what the grammar says is proved in `proofs/Readable.antt`.
-- Assumes nothing.
use Rattle.std.specs.Prelude.{ℕ, zero, suc, ◌+◌, ◌-◌, ◌*◌, ◌/◌, ◌%◌, Bool, true, false, cond, ◌&&◌, ◌||◌, eqb, ltb, leb, length, get_or, set, replicate}
use mathlib.Core.List.{List, [], ◌∷◌, foldl}
use Rattle.std.proofs.lemmas.List.Edits.{sets}
use Rattle.lines.specs.declared.reading.Reader.{Reader}
use Rattle.lines.specs.declared.reading.Line.{Line}
use Rattle.lines.specs.declared.reading.Call.{Call}
use Rattle.lines.specs.declared.reading.Call.TheVariants as call
use Rattle.lines.specs.Decimal.{is_digit}
use Rattle.lines.specs.Forms.{table}
use Rattle.lines.specs.Grammar.{is_word}

-- ---- places of the table
unfoldable pub size : ℕ
size = length table

unfoldable pub letter_at : ℕ → ℕ
letter_at p = get_or table p 0

-- a mark that takes pairs; that takes numbers of more than one digit; any mark
abbrev pub is_paired : ℕ → Bool
is_paired c = eqb c 37 || eqb c 36

abbrev pub is_numbered : ℕ → Bool
is_numbered c = eqb c 35 || is_paired c

abbrev pub is_mark : ℕ → Bool
is_mark c = is_numbered c || eqb c 38

abbrev pub is_tag : ℕ → Bool
is_tag c = leb 65 c && leb c 90

-- the texts before two places are the same, each from its row's start; nothing is like the place 0
unfoldable pub like : ℕ → ℕ → Bool
like zero q = false
like (suc p) zero = false
like (suc p) (suc q) = eqb (letter_at p) (letter_at q) && (eqb (letter_at p) 10 || like p q)

-- a letter of the table takes a byte; the line's end is told as a newline, and a tag takes it
abbrev pub takes : ℕ → ℕ → Bool
takes c b = cond (eqb b 10) (is_tag c) (eqb c b)

abbrev pub goes : ℕ → ℕ → ℕ → Bool
goes p b q = like p q && takes (letter_at q) b

-- behind the first letter, from q on in its column, that takes b in a row with the text before p; 0 where there is none
unfoldable pub seek_in : ℕ → ℕ → ℕ → ℕ → ℕ
seek_in zero p b q = 0
seek_in (suc n) p b q = cond (goes p b q) (q + 1) (seek_in n p b (q + 64))

-- the rows from that of q on
abbrev pub left : ℕ → ℕ
left q = (size - q + 63) / 64

abbrev pub seek : ℕ → ℕ → ℕ
seek p b = seek_in (left p) p b p

-- ---- what a mark takes. Of it there may have come: 0 nothing; 1 digits of its first number, a path in pairs, a path or a place
-- in an entry; 2 a colon behind a path; 3 digits of a value; 4 a comma behind that; 5 digits of a further path; 6 a slash behind an
-- entry. Of single digits each is a number of its own
abbrev pub inside : ℕ → Bool
inside s = eqb s 1 || eqb s 3 || eqb s 5

abbrev pub begins : ℕ → ℕ
begins s = cond (eqb s 2) 3 (cond (eqb s 4) 5 1)

abbrev pub may_end : ℕ → ℕ → Bool
may_end c s =
    eqb c 35 && eqb s 1 || eqb c 37 && (eqb s 0 || eqb s 3) || eqb c 38 && (eqb s 0 || eqb s 1)
    || eqb c 36 && (eqb s 0 || eqb s 1 || eqb s 3 || eqb s 6)

-- the byte that parts two numbers, or two entries: what has come with it; else 0
abbrev pub parts : ℕ → ℕ → ℕ → ℕ
parts c s b =
    cond (is_paired c && ((eqb s 1 || eqb s 5) && eqb b 58)) 2
    (cond (is_paired c && (eqb s 3 && eqb b 44)) 4 (cond (eqb c 36 && (may_end c s && eqb b 47)) 6 0))

-- where a letter is looked for from the place p with the letter c: behind a mark that may end; nowhere before
abbrev pub past : ℕ → ℕ → ℕ → ℕ
past c s p = cond (is_mark c) (cond (may_end c s) (p + 1) 0) (cond (eqb s 0) p 0)

-- ---- the reader
abbrev pub placed : Reader → ℕ → Reader
placed r p = record { at = p; sub = 0; value = r.value; used = r.used; count = r.count }

abbrev pub begun : Reader → ℕ → ℕ → Reader
begun r s d = record { at = r.at; sub = s; value = d; used = r.used; count = r.count }

-- a further digit; a number above 65,535 is unreadable
abbrev pub grown_if : Bool → Reader → ℕ → Reader
grown_if true r v = begun r r.sub v
grown_if false r v = placed r 0

abbrev pub grown : Reader → ℕ → Reader
grown r d = grown_if (leb (10 * r.value + d) 65535) r (10 * r.value + d)

-- what it has of the room: the bytes of what ended, and behind them, of the entry that has not, how many numbers ended
abbrev pub holding : Reader → ℕ → ℕ → Reader
holding r u n = record { at = r.at; sub = r.sub; value = r.value; used = u; count = n }

-- ---- the room
abbrev pub low : ℕ → ℕ
low n = n % 256

abbrev pub high : ℕ → ℕ
high n = n / 256 % 256

-- two bytes for each number, the low one first
unfoldable pub two_bytes : List ℕ → List ℕ
two_bytes [] = []
two_bytes (n ∷ ns) = low n ∷ high n ∷ two_bytes ns

abbrev pub two_at : List ℕ → ℕ → ℕ → List ℕ
two_at m at n = set (set m at (low n)) (at + 1) (high n)

abbrev pub at_most : ℕ → ℕ → ℕ
at_most k u = cond (ltb u k) u k

-- a number that has ended is kept, if the room has two bytes left
abbrev pub used_next : ℕ → ℕ
used_next u = cond (ltb u 5139) (u + 2) u

abbrev pub stored_at : ℕ → ℕ → List ℕ → List ℕ
stored_at u v m = cond (ltb u 5139) (two_at m u v) m

abbrev pub stored : Reader → Reader
stored r = holding r (used_next r.used) r.count

abbrev pub stored_in : Reader → List ℕ → List ℕ
stored_in r m = stored_at r.used r.value m

abbrev pub kept : Reader → Reader
kept r = cond (inside r.sub) (stored r) r

abbrev pub kept_in : Reader → List ℕ → List ℕ
kept_in r m = cond (inside r.sub) (stored_in r m) m

-- ---- an entry, if the room has 20 bytes left: its kind; the number of its pairs, or the place that it names; and the numbers of
-- its pairs, the first eight, each at its place as soon as it has ended. Nine stand for more than eight
abbrev pub count_next : ℕ → ℕ
count_next n = cond (ltb n 9) (n + 1) n

abbrev pub noted_at : ℕ → ℕ → ℕ → List ℕ → List ℕ
noted_at u n v m = cond (ltb u 5121 && ltb n 8) (two_at m (u + 4 + 2 * n) v) m

abbrev pub noted : Reader → Reader
noted r = holding r r.used (count_next r.count)

abbrev pub noted_in : Reader → List ℕ → List ℕ
noted_in r m = noted_at r.used r.count r.value m

-- the pairs of so many numbers; more than four are told as five
abbrev pub pairs_of : ℕ → ℕ
pairs_of n = cond (ltb n 9) ((n + 1) / 2) 5

-- the bytes of the numbers that have a place
abbrev pub filled_by : ℕ → ℕ
filled_by n = 2 * at_most 8 n

abbrev pub used_closed : ℕ → ℕ
used_closed u = cond (ltb u 5121) (u + 20) u

-- of the kind k with the number c, behind its n numbers zeros
abbrev pub closed_at : ℕ → ℕ → ℕ → ℕ → List ℕ → List ℕ
closed_at u n k c m = cond (ltb u 5121) (sets (two_at (two_at m u k) (u + 2) c) (u + 4 + filled_by n) (replicate (16 - filled_by n) 0)) m

abbrev pub closed : Reader → Reader
closed r = holding r (used_closed r.used) 0

abbrev pub closed_in : Reader → ℕ → ℕ → List ℕ → List ℕ
closed_in r k c m = closed_at r.used r.count k c m

abbrev pub changed_in : Reader → List ℕ → List ℕ
changed_in r m = closed_in r 1 (pairs_of r.count) m

-- one number alone is the place that a rollback names
abbrev pub entered_in : Reader → List ℕ → List ℕ
entered_in r m = cond (eqb r.sub 1) (closed_in r 2 r.value m) (cond (eqb r.sub 3) (changed_in (noted r) (noted_in r m)) (changed_in r m))

-- at a mark that takes entries: n has come with a byte that parts, or 0 with one that does not
abbrev pub in_entry : ℕ → Bool
in_entry n = eqb n 2 || eqb n 4

abbrev pub ends_entry : ℕ → ℕ → Bool
ends_entry s n = eqb n 6 || ltb 0 s

abbrev pub listed : ℕ → Reader → Reader
listed n r = cond (in_entry n) (noted r) (cond (ends_entry r.sub n) (closed r) r)

abbrev pub listed_in : ℕ → Reader → List ℕ → List ℕ
listed_in n r m = cond (in_entry n) (noted_in r m) (cond (ends_entry r.sub n) (entered_in r m) m)

-- what was being read at a mark with the letter c has ended
abbrev pub ended : ℕ → ℕ → Reader → Reader
ended c n r = cond (eqb c 36) (listed n r) (kept r)

abbrev pub ended_in : ℕ → ℕ → Reader → List ℕ → List ℕ
ended_in c n r m = cond (eqb c 36) (listed_in n r m) (kept_in r m)

-- ---- one byte more
abbrev pub with_digit : Reader → ℕ → Reader
with_digit r d =
    cond (eqb (letter_at r.at) 38) (begun (kept r) 1 d)
    (cond (is_numbered (letter_at r.at)) (cond (inside r.sub) (grown r d) (begun r (begins r.sub) d)) (placed r 0))

-- the letter b in a row's text from p on
abbrev pub spelt : ℕ → ℕ → ℕ
spelt p b = cond (is_word b) (seek p b) 0

abbrev pub with_part : Reader → ℕ → ℕ → Reader
with_part r n b =
    cond (eqb n 0) (placed (ended (letter_at r.at) n r) (spelt (past (letter_at r.at) r.sub r.at) b)) (begun (ended (letter_at r.at) n r) n 0)

abbrev pub with_text : Reader → ℕ → Reader
with_text r b = with_part r (parts (letter_at r.at) r.sub b) b

unfoldable pub pushed : Reader → ℕ → Reader
pushed r b = cond (is_digit b) (with_digit r (b - 48)) (with_text r b)

-- a digit by itself ends the one before it
abbrev pub digit_in : Reader → List ℕ → List ℕ
digit_in r m = cond (eqb (letter_at r.at) 38) (kept_in r m) m

abbrev pub text_in : Reader → ℕ → List ℕ → List ℕ
text_in r b m = ended_in (letter_at r.at) (parts (letter_at r.at) r.sub b) r m

abbrev pub pushed_in : Reader → ℕ → List ℕ → List ℕ
pushed_in r b m = cond (is_digit b) (digit_in r m) (text_in r b m)

abbrev pub stepped : Reader × List ℕ → ℕ → Reader × List ℕ
stepped x b = (pushed x.0 b, pushed_in x.0 b x.1)

abbrev pub fresh : Reader
fresh = record { at = 1; sub = 0; value = 0; used = 0; count = 0 }

-- ---- the line's end
-- the tag before a place; 0 where there is none
abbrev pub tag_before : ℕ → ℕ
tag_before e = cond (eqb e 0) 0 (letter_at (e - 1))

abbrev pub tag_of : Reader → ℕ
tag_of r = tag_before (seek (past (letter_at r.at) r.sub r.at) 10)

-- the reader and the room behind it
abbrev pub last : Reader → Reader
last r = ended (letter_at r.at) 0 r

abbrev pub last_in : Reader → List ℕ → List ℕ
last_in r m = ended_in (letter_at r.at) 0 r m

-- the number at a place of a room of which u bytes are used
abbrev pub number_in : ℕ → List ℕ → ℕ → ℕ
number_in u m at = cond (ltb at u) (get_or m at 0 + 256 * get_or m (at + 1) 0) 0

-- the call that a tag stands for, with its numbers
unfoldable pub call_of : (t a b c d e : ℕ) → Call
call_of t a b c d e =
    cond (eqb t 65) call.Append
    (cond (eqb t 67) (call.Connect a)
    (cond (eqb t 68) (call.Disconnect a)
    (cond (eqb t 77) (call.Master a)
    (cond (eqb t 82) (call.Rollback a)
    (cond (eqb t 83) call.Start
    (cond (eqb t 84) call.Stop
    (cond (eqb t 89) (call.Sync a)
    (cond (eqb t 87) (call.Work a b c d e)
    (cond (eqb t 70) (call.Fold a)
    (cond (eqb t 81) (call.Why a b c)
    (cond (eqb t 78) (call.Night a b)
    (cond (eqb t 73) call.Import
    (cond (eqb t 79) (call.Owner a)
    (cond (eqb t 66) (call.Fresh a)
    call.Unreadable))))))))))))))

-- the bytes of the room that go with a call, at most: those of an append's pairs, five of them; of a night, node, budget and 257
-- outcomes; of an import, 257 entries
abbrev pub most_of : ℕ → ℕ
most_of t = cond (eqb t 65) 20 (cond (eqb t 78) 518 (cond (eqb t 73) 5140 0))

abbrev pub length_of : ℕ → ℕ → ℕ
length_of t u = at_most (most_of t) u

abbrev pub line_of : ℕ → ℕ → List ℕ → Line
line_of t u m =
    record {
      call = call_of t (number_in u m 0) (number_in u m 2) (number_in u m 4) (number_in u m 6) (number_in u m 8);
      length = length_of t u;
    }

abbrev pub finished : Reader → List ℕ → Line
finished r m = line_of (tag_of r) (last r).used (last_in r m)

-- ---- a whole line, read in the room m
abbrev pub ran : List ℕ → List ℕ → Reader × List ℕ
ran m l = foldl stepped (fresh, m) l

abbrev pub said : List ℕ → List ℕ → Line
said m l = finished (ran m l).0 (ran m l).1

-- the room behind it
abbrev pub said_in : List ℕ → List ℕ → List ℕ
said_in m l = last_in (ran m l).0 (ran m l).1
