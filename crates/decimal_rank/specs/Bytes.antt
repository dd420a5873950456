-- Bytes of ASCII (RFC 20) by name.
use Rattle.std.specs.Prelude.{ℕ}

abbrev pub tab : ℕ
tab = 9

abbrev pub line_feed : ℕ
line_feed = 10

abbrev pub vertical_tab : ℕ
vertical_tab = 11

abbrev pub form_feed : ℕ
form_feed = 12

abbrev pub carriage_return : ℕ
carriage_return = 13

abbrev pub space : ℕ
space = 32

-- '!', from which on a byte is visible
abbrev pub exclamation_mark : ℕ
exclamation_mark = 33

abbrev pub hyphen : ℕ
hyphen = 45

abbrev pub full_stop : ℕ
full_stop = 46

abbrev pub zero_digit : ℕ
zero_digit = 48

abbrev pub nine_digit : ℕ
nine_digit = 57

abbrev pub question_mark : ℕ
question_mark = 63

abbrev pub underscore : ℕ
underscore = 95

-- '~', up to which a byte is visible
abbrev pub tilde : ℕ
tilde = 126

-- the letters at the ends of the alphabets, and those that mark an exponent

abbrev pub upper_a : ℕ
upper_a = 65

abbrev pub upper_e : ℕ
upper_e = 69

abbrev pub upper_z : ℕ
upper_z = 90

abbrev pub lower_a : ℕ
lower_a = 97

abbrev pub lower_e : ℕ
lower_e = 101

abbrev pub lower_z : ℕ
lower_z = 122
