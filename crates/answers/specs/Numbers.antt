-- Paper 01, "Numbered answers" and "Names and types": the numbers, each under a name.
use Rattle.std.specs.Prelude.{ℕ}

-- ---- the answers

-- 0: "accepted, or run ended"
abbrev pub accepted : ℕ
accepted = 0

abbrev pub ended : ℕ
ended = 0

-- 1: "read's table under 32,768 words; translate's code under 16,384"
abbrev pub short : ℕ
short = 1

-- 2: "source over 16,384 bytes"
abbrev pub long : ℕ
long = 2

-- 3: "no symbol; open apostrophe; note without `;`"
abbrev pub no_symbol : ℕ
no_symbol = 3

-- 4: "number over 2,147,483,647; name over 32 characters; symbol 2,049 (notes and remarks not counted)"
abbrev pub too_large : ℕ
too_large = 4

-- 5: "grammar: the first symbol that no program can have there, or the source's end where none can end"
abbrev pub grammar : ℕ
grammar = 5

-- 6: "depth 65"
abbrev pub depth : ℕ
depth = 6

-- 7: "declared twice in one block, formal repeated, or formal named as its procedure"
abbrev pub twice : ℕ
twice = 7

-- 8: "no declaration, formal or environment entry"
abbrev pub undeclared : ℕ
undeclared = 8

-- 9: "value or specification name no formal or repeated; formal missing"
abbrev pub heading : ℕ
heading = 9

-- 10: "type fault above"
abbrev pub types : ℕ
types = 10

-- 20: "instruction limit reached"
abbrev pub limit : ℕ
limit = 20

-- 21: "result outside −2,147,483,648 to 2,147,483,647"
abbrev pub range : ℕ
range = 21

-- 22: "divisor zero"
abbrev pub zero_divisor : ℕ
zero_divisor = 22

-- 23: "unassigned variable, formal or needed result read"
abbrev pub unassigned : ℕ
unassigned = 23

-- 24: "input ended"
abbrev pub input_ended : ℕ
input_ended = 24

-- 25: "output full"
abbrev pub output_full : ℕ
output_full = 25

-- 26: "one more cell than the run may use"
abbrev pub cells : ℕ
cells = 26

-- 27: "a 257th activation live"
abbrev pub activations : ℕ
activations = 27

-- 28: "channel not 1"
abbrev pub channel : ℕ
channel = 28

-- 29: "no instruction at the counter, an operand outside its range, or a value taken where none is held"
abbrev pub no_instruction : ℕ
no_instruction = 29

-- 30: "A store to one whose actual is no variable"
abbrev pub no_variable : ℕ
no_variable = 30

-- 31, paper 02, request 12: "More than 65,535 sets is new answer 31"
abbrev pub too_many_sets : ℕ
too_many_sets = 31

-- ---- the environment: "The environment holds iabs (0), maxint (1), ininteger (2), outinteger (3)"

abbrev pub iabs : ℕ
iabs = 0

abbrev pub maxint : ℕ
maxint = 1

abbrev pub ininteger : ℕ
ininteger = 2

abbrev pub outinteger : ℕ
outinteger = 3

-- request 6: "outreal (4)"
abbrev pub outreal : ℕ
outreal = 4
