-- Characters of ASCII by their names, for grammars and printed texts.
use Rattle.std.specs.Prelude.{ℕ}

abbrev pub backspace : ℕ
backspace = 8

abbrev pub tab : ℕ
tab = 9

abbrev pub line_feed : ℕ
line_feed = 10

abbrev pub form_feed : ℕ
form_feed = 12

abbrev pub carriage_return : ℕ
carriage_return = 13

abbrev pub space : ℕ
space = 32

abbrev pub quote : ℕ
quote = 34

abbrev pub hash : ℕ
hash = 35

abbrev pub apostrophe : ℕ
apostrophe = 39

abbrev pub plus : ℕ
plus = 43

abbrev pub comma : ℕ
comma = 44

abbrev pub hyphen : ℕ
hyphen = 45

abbrev pub dot : ℕ
dot = 46

abbrev pub slash : ℕ
slash = 47

abbrev pub zero_digit : ℕ
zero_digit = 48

abbrev pub colon : ℕ
colon = 58

abbrev pub less : ℕ
less = 60

abbrev pub greater : ℕ
greater = 62

abbrev pub question_mark : ℕ
question_mark = 63

abbrev pub at_sign : ℕ
at_sign = 64

abbrev pub capital_u : ℕ
capital_u = 85

abbrev pub opening_bracket : ℕ
opening_bracket = 91

abbrev pub backslash : ℕ
backslash = 92

abbrev pub closing_bracket : ℕ
closing_bracket = 93

abbrev pub caret : ℕ
caret = 94

abbrev pub underscore : ℕ
underscore = 95

abbrev pub grave : ℕ
grave = 96

abbrev pub letter_b : ℕ
letter_b = 98

abbrev pub letter_f : ℕ
letter_f = 102

abbrev pub letter_n : ℕ
letter_n = 110

abbrev pub letter_r : ℕ
letter_r = 114

abbrev pub letter_t : ℕ
letter_t = 116

abbrev pub letter_u : ℕ
letter_u = 117

abbrev pub opening_brace : ℕ
opening_brace = 123

abbrev pub bar : ℕ
bar = 124

abbrev pub closing_brace : ℕ
closing_brace = 125
