-- The G-code of the box of two by two cells and two layers, computed from its full slices.
use Rattle.std.specs.Prelude.{◌≡◌, pos, ◌%◌, ◌==◌, true, [], ◌∷◌, refl, codes}
use Rattle.std.specs.declared.option.Option.TheVariants.{Some}
use Rattle.std.specs.Fmt.{digits}
use Rattle.pl_grid.specs.Extent.{Extent}
use Rattle.pl_grid.specs.Planes.{Cells, plane_of, cells_of}
use Rattle.pl_grid.specs.Strokes.{axis_of, strokes_of}
use Rattle.pl_gcode.specs.Print.{Settings, Print}
use Rattle.pl_gcode.specs.Gcode.{origin, head_text, height_text}

abbrev two_by_two : Extent
two_by_two = record { x0 = pos 0; y0 = pos 0; cols = 2; rows = 2 }

abbrev full : Cells
unfolding cells_of
full = plane_of two_by_two (λ _ _. true)

abbrev settings : Settings
settings = record {
  perimeter_speed = 45;
  infill_speed = 80;
  travel_speed = 130;
  temperature = 210;
  first_layer_temperature = 215;
  bed_temperature = 60;
  first_layer_bed_temperature = 60;
  filament_diameter = record { 0 = pos 1750000 };
  extrusion_multiplier = 100;
  skirt_height = 1;
  start_gcode = [];
  end_gcode = [];
}

abbrev print : Print
print = record {
  settings = settings;
  heights = record { 0 = pos 200000 } ∷ record { 0 = pos 400000 } ∷ [];
  tools = λ _. 0 ∷ [];
  block = λ _ _. [];
  skirt = [];
  brim = [];
  places = 0 ∷ [];
  tool = λ _. 0;
  instances = λ _. origin ∷ [];
  layers = λ _. 2;
  layer_at = λ _ i. Some i;
  layer_height = λ _ _. record { 0 = pos 200000 };
  loops = λ _ _. [];
  infill = λ _ k. strokes_of (axis_of (k % 2 == 0)) 1 full;
  ironing = λ _ _. [];
  support = λ _ _. [];
}

head_is : head_text settings ≡ codes "; headless plater\nG21\nG90\nM83\nM140 S60\nM104 S215\nM190 S60\nM109 S215\n"
unfolding digits
head_is = refl

first_is : height_text print 0 ≡ codes ";Z 0.200\nG1 Z0.200 F7800\n;OBJECT 0 0\nG1 X0.000 Y0.200 F7800\nG1 F4800\nG1 X0.800 Y0.200 E0.02660\nG1 X0.800 Y0.600 F7800\nG1 F4800\nG1 X0.000 Y0.600 E0.02660\n"
unfolding cells_of digits
first_is = refl

second_is : height_text print 1 ≡ codes ";Z 0.400\nG1 Z0.400 F7800\nM140 S60\nM104 S210\n;OBJECT 0 0\nG1 X0.200 Y0.000 F7800\nG1 F4800\nG1 X0.200 Y0.800 E0.02660\nG1 X0.600 Y0.800 F7800\nG1 F4800\nG1 X0.600 Y0.000 E0.02660\n"
unfolding cells_of digits
second_is = refl
