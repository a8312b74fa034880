-- WHAT EACH WORD TAKES: the words of mkrequest by their keys, each with its name and what is expected behind `=`. mkrequest says it of a
-- word that it refuses, and of each word where it is asked for help.
-- Assumes nothing.
use Rattle.std.specs.Prelude.{List, [], ◌∷◌, ◌++◌, ℕ}
use Prim.Native.String.{String}
use Rattle.text_pages.specs.Pages.{text_at}

-- a name beside what its word takes
infix 68 ◌takes◌
pub data Expectation : Type 0 where
  ◌takes◌ : String → String → Expectation

-- the words
unfoldable pub rows : List Expectation
rows =
    "label" takes "at most 12 bytes"
    ∷ "use" takes "bytes of the file system, such as 500G"
    ∷ "block" takes "bytes of a block, a power of two from 1K to 16K"
    ∷ "sector" takes "bytes of a sector, a power of two from 512 to 32K"
    ∷ "inode" takes "bytes of an inode, a power of two from 512 to 2K and at most half a block"
    ∷ "agcount" takes "a number of groups, such as 4"
    ∷ "agsize" takes "bytes of a group, such as 1G"
    ∷ "imaxpct" takes "a share in percent, from 0 to 100"
    ∷ "seed" takes "a number below 2^64"
    ∷ "features" takes "all, none, or a list such as -reflink,-rmapbt of finobt rmapbt reflink inobtcount bigtime nrext64 sparse"
    ∷ "time" takes "now, or seconds since 1970"
    ∷ "nanoseconds" takes "a number below 1000000000"
    ∷ "sizing" takes "plain or roomy"
    ∷ "profile" takes "station"
    ∷ "size" takes "bytes of the device, such as 2T"
    ∷ "logical" takes "bytes of the device's logical sector, such as 512 or 4K"
    ∷ "physical" takes "bytes of the device's physical sector, such as 512 or 4K"
    ∷ "uuid" takes "random, none, or 36 characters such as 7a656368-7572-7169-2d73-746174696f6e"
    ∷ []

-- what is expected in place of a word that is none of these; `device=` stands for three of them
abbrev pub any_word : String
any_word = "one of device= label= use= block= sector= inode= agcount= agsize= imaxpct= seed= features= time= nanoseconds= sizing= profile= size= logical= physical= uuid="

unfoldable pub keys_named : List Expectation → List String
keys_named [] = []
keys_named ((name takes text) ∷ rs) = name ∷ keys_named rs

unfoldable pub word_takes : List Expectation → List String
word_takes [] = []
word_takes ((name takes text) ∷ rs) = text ∷ word_takes rs

-- THE NAME OF A KEY; none of a number that is no key
abbrev pub name_of : ℕ → String
name_of key = text_at "" key (keys_named rows)

-- WHAT IS EXPECTED behind the name of a key; of a number that is no key, a word
abbrev pub expected : ℕ → String
expected key = text_at any_word key (word_takes rows)

-- the lines of two pages: the names, and what is expected
unfoldable pub name_lines : List String
name_lines = keys_named rows ++ ("" ∷ [])

unfoldable pub expected_lines : List String
expected_lines = word_takes rows ++ (any_word ∷ [])
