-- The texts of one and of two vehicles, written out, and a line.
use Rattle.std.proofs.Common.{◌≡◌, refl, ◌++◌, codes}
use Rattle.std.specs.Fmt.{digits}
use Rattle.made_programs.specs.MadeText.{made_line, made_text}

one_vehicle : made_text 1 ≡
    codes "import osc.standard\n"
    ++ codes "scenario top:\n"
    ++ codes "    v0: vehicle\n"
    ++ codes "    do serial:\n"
    ++ codes "        parallel:\n"
    ++ codes "            v0.drive(duration: 0.5s) with:\n"
    ++ codes "                lane(1, at: start)\n"
    ++ codes "                speed(10mps)\n"
    ++ codes "                position(0m, at: start)\n"
unfolding digits
one_vehicle = refl

two_vehicles : made_text 2 ≡
    codes "import osc.standard\n"
    ++ codes "scenario top:\n"
    ++ codes "    v0: vehicle\n"
    ++ codes "    v1: vehicle\n"
    ++ codes "    do serial:\n"
    ++ codes "        parallel:\n"
    ++ codes "            v0.drive(duration: 0.5s) with:\n"
    ++ codes "                lane(1, at: start)\n"
    ++ codes "                speed(10mps)\n"
    ++ codes "                position(0m, at: start)\n"
    ++ codes "            v1.drive(duration: 0.5s) with:\n"
    ++ codes "                lane(2, at: start)\n"
    ++ codes "                speed(11mps)\n"
    ++ codes "                position(20m, at: start)\n"
    ++ codes "        parallel:\n"
    ++ codes "            v0.drive(duration: 0.5s) with:\n"
    ++ codes "                lane(2, at: start)\n"
    ++ codes "                speed(10mps)\n"
    ++ codes "            v1.drive(duration: 0.5s) with:\n"
    ++ codes "                lane(3, at: start)\n"
    ++ codes "                speed(11mps)\n"
unfolding digits
two_vehicles = refl

line : made_line 2 7 10 ≡ codes "make 2 phases 7 end 10 check yes\n"
unfolding digits
line = refl
