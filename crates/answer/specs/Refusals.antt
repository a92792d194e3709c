-- The refusal numbers, by their names: the table of documents 01 and 02. Assumes nothing.
use Rattle.std.specs.Prelude.{ℕ, Result, Ok, Err}
use Rattle.answer.specs.declared.refusals.Rule.{Rule}
use Rattle.answer.specs.declared.refusals.Rule.TheVariants as rule

abbrev pub TOO_LONG : ℕ
TOO_LONG = 1

abbrev pub NOT_HDF : ℕ
NOT_HDF = 2

abbrev pub DIR_CUT : ℕ
DIR_CUT = 3

abbrev pub DIR_LOOP : ℕ
DIR_LOOP = 4

abbrev pub DIR_OVER : ℕ
DIR_OVER = 5

abbrev pub DIR_BIG : ℕ
DIR_BIG = 6

abbrev pub BAD_TAG : ℕ
BAD_TAG = 7

abbrev pub OUTSIDE : ℕ
OUTSIDE = 8

abbrev pub ON_DIRECTORY : ℕ
ON_DIRECTORY = 9

abbrev pub TWICE : ℕ
TWICE = 10

abbrev pub ABSENT : ℕ
ABSENT = 11

abbrev pub STORAGE : ℕ
STORAGE = 12

abbrev pub CHAIN : ℕ
CHAIN = 13

abbrev pub SMALL : ℕ
SMALL = 14

abbrev pub RECORD : ℕ
RECORD = 15

abbrev pub TYPE : ℕ
TYPE = 16

abbrev pub NO_VALUE : ℕ
NO_VALUE = 17

abbrev pub PRESENT : ℕ
PRESENT = 18

abbrev pub NO_ROOM : ℕ
NO_ROOM = 19

abbrev pub NO_EDIT : ℕ
NO_EDIT = 20

abbrev pub BAD_TRAILER : ℕ
BAD_TRAILER = 21

abbrev pub DEEP : ℕ
DEEP = 22

abbrev pub NO_TABLE : ℕ
NO_TABLE = 23

abbrev pub SHORT_TABLE : ℕ
SHORT_TABLE = 24

abbrev pub NO_BLOCK : ℕ
NO_BLOCK = 25

abbrev pub SHORT_BLOCK : ℕ
SHORT_BLOCK = 26

abbrev pub TABLE_LOOP : ℕ
TABLE_LOOP = 27

abbrev pub NOT_STORED : ℕ
NOT_STORED = 29

abbrev pub OTHER_DESK : ℕ
OTHER_DESK = 30

-- the number of a rule
abbrev pub number_of : Rule → ℕ
number_of rule.TooLong = TOO_LONG
number_of rule.NotHdf = NOT_HDF
number_of rule.DirCut = DIR_CUT
number_of rule.DirLoop = DIR_LOOP
number_of rule.DirOver = DIR_OVER
number_of rule.DirBig = DIR_BIG
number_of rule.BadTag = BAD_TAG
number_of rule.Outside = OUTSIDE
number_of rule.OnDirectory = ON_DIRECTORY
number_of rule.Twice = TWICE
number_of rule.Absent = ABSENT
number_of rule.Storage = STORAGE
number_of rule.Chain = CHAIN
number_of rule.Small = SMALL
number_of rule.Record = RECORD
number_of rule.Type = TYPE
number_of rule.NoValue = NO_VALUE
number_of rule.Present = PRESENT
number_of rule.NoRoom = NO_ROOM
number_of rule.NoEdit = NO_EDIT
number_of rule.BadTrailer = BAD_TRAILER
number_of rule.Deep = DEEP
number_of rule.NoTable = NO_TABLE
number_of rule.ShortTable = SHORT_TABLE
number_of rule.NoBlock = NO_BLOCK
number_of rule.ShortBlock = SHORT_BLOCK
number_of rule.TableLoop = TABLE_LOOP
number_of rule.NotStored = NOT_STORED
number_of rule.OtherDesk = OTHER_DESK

-- the number of the rule that a test found broken, 0 where it found none
abbrev pub fault_of : {A : Type 0} → Result A Rule → ℕ
fault_of (Ok x) = 0
fault_of (Err r) = number_of r
